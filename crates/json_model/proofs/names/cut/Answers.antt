use Rattle.std.proofs.Common.{lit<}
use Rattle.std.proofs.lemmas.Str.Pattern.{split_parts}
use Rattle.json_model.proofs.Cuts.{cut_found}
use Rattle.json_model.proofs.names.cut.Goals as goal

pub returns : goal.returns
returns c = cut_found _ _ c.in-Some.rest.now c.split_once.result c.in-Some.ensures (split_parts 47 c.in-Some.rest.now c.split_once.result c.split_once.ensures.cases (lit< tt))
