use Rattle.value_model.proofs.Mapped.{map_laws}
use Rattle.value_model.proofs.laws.fields_are_a_map.Goals as goal

pub returns : goal.returns
returns c = map_laws
