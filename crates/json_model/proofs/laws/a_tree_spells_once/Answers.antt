use Rattle.json_model.proofs.Once.{value_once, spells_fields_once}
use Rattle.json_model.proofs.OneName.{spells_name_one}
use Rattle.json_model.proofs.laws.a_tree_spells_once.Goals as goal

pub returns : goal.returns
returns c = record { value = value_once; fields = spells_fields_once; name = spells_name_one }
