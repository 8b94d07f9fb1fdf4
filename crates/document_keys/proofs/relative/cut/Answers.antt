use Rattle.std.proofs.Common.{[], lit<, refl}
use Rattle.std.proofs.lemmas.Str.Pattern.{split_parts}
use Rattle.document_keys.proofs.Parts.{cut_last, cut_part}
use Rattle.document_keys.proofs.relative.cut.Goals as goal

pub returns-in-Some-clause-cut : goal.returns-in-Some-clause-cut
returns-in-Some-clause-cut c =
    let here = rw c.in-Some.is at (split_parts 47 c.args.path.now c.split_once.result c.split_once.ensures.cases (lit< tt)) in
    cut_part c.args.path.now c.args.path.now _ _ [] refl here.0 here.1

pub returns-in-None-clause-cut : goal.returns-in-None-clause-cut
returns-in-None-clause-cut c =
    let here = rw c.in-None.is at (split_parts 47 c.args.path.now c.split_once.result c.split_once.ensures.cases (lit< tt)) in
    cut_last c.args.path.now c.args.path.now [] refl here
