use Rattle.value_model.proofs.Lawful.{tie_laws}
use Rattle.value_model.proofs.laws.ties_are_equal.Goals as goal

pub returns : goal.returns
returns c = tie_laws
