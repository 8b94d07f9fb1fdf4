use Rattle.std.proofs.Common.{sym, ◌∙◌}
use Rattle.json_model.proofs.Kinded.{unless_some, no_segment}
use Rattle.json_model.proofs.leaves.find_in_id_text.Goals as goal

pub returns : goal.returns
returns c = unless_some _ _ _ (no_segment _ c.in_ok-read_segment.field-0 c.in_ok-read_segment.ensures (sym c.is_some.ensures ∙ c.if-is_some.false)) c.in_ok-bad_name.ensures
