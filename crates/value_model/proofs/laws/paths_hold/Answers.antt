use Rattle.value_model.proofs.Lookups.{path_laws}
use Rattle.value_model.proofs.laws.paths_hold.Goals as goal

pub returns : goal.returns
returns c = path_laws
