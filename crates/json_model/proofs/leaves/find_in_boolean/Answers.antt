use Rattle.std.proofs.Common.{ap, sym, ◌∙◌, is_some}
use Rattle.serde_json.specs.Find.{as_bool}
use Rattle.json_model.proofs.Kinded.{unless_test, is_boolean}
use Rattle.json_model.proofs.leaves.find_in_boolean.Goals as goal

pub returns : goal.returns
returns c = unless_test _ _ c.is_boolean.result c.bad_shape_unless.result (λ e. is_boolean _ (sym c.is_boolean.ensures ∙ e)) (λ fact. c.is_boolean.ensures ∙ ap (λ d. is_some (as_bool d)) fact.1) c.bad_shape_unless.ensures
