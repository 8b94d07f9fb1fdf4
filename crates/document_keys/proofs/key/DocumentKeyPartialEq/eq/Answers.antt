use Rattle.std.proofs.Common.{◌∙◌}
use Rattle.document_keys.proofs.Keys.{same_tests}
use Rattle.document_keys.proofs.key.DocumentKeyPartialEq.eq.Goals as goal

pub returns : goal.returns
returns c = rw (← c.self.view_is, ← c.other.view_is) (c.eq.ensures ∙ rw (c.as_str.ensures, c.as_str-2.ensures) (same_tests c.self.inside.path c.other.inside.path))
