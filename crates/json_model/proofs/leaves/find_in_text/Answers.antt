use Rattle.std.proofs.Common.{ap, sym, ◌∙◌, is_some}
use Rattle.serde_json.specs.Find.{as_str}
use Rattle.json_model.proofs.Kinded.{unless_test, is_text}
use Rattle.json_model.proofs.leaves.find_in_text.Goals as goal

pub returns : goal.returns
returns c = unless_test _ _ c.is_string.result c.bad_shape_unless.result (λ e. is_text _ (sym c.is_string.ensures ∙ e)) (λ fact. c.is_string.ensures ∙ ap (λ d. is_some (as_str d)) fact.1) c.bad_shape_unless.ensures
