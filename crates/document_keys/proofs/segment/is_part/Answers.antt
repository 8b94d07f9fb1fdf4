use Rattle.std.proofs.Common.{lit<}
use Rattle.std.proofs.lemmas.Str.Pattern.{contains_char}
use Rattle.document_keys.proofs.Parts.{is_part-from_search}
use Rattle.document_keys.proofs.segment.is_part.Goals as goal

pub returns : goal.returns
returns c =
    let found = contains_char 47 _ _ c.contains.ensures.cases (lit< tt) in
    is_part-from_search _ _ found.0 found.1
