use Rattle.value_model.proofs.Lawful.{ordered}
use Rattle.value_model.proofs.laws.values_are_ordered.Goals as goal

pub returns : goal.returns
returns c = ordered
