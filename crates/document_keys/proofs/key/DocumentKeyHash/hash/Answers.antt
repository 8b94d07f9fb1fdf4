use Rattle.std.proofs.lemmas.List.Splits.{join_with_byte-slice_split}
use Rattle.document_keys.proofs.key.DocumentKeyHash.hash.Goals as goal

pub returns : goal.returns
returns g c = rw (← c.self.view_is, join_with_byte-slice_split 47 c.self.inside.path, ← c.as_str.ensures) c.hash.ensures
