use Rattle.value_model.proofs.Same.{same_values}
use Rattle.value_model.proofs.laws.same_values_are_equal.Goals as goal

pub returns : goal.returns
returns c = same_values
