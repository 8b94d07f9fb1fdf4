use Rattle.value_model.proofs.Instants.{times_ordered}
use Rattle.value_model.proofs.laws.times_are_ordered.Goals as goal

pub returns : goal.returns
returns c = times_ordered
