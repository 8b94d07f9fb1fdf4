use Rattle.json_model.proofs.Kinded.{text_faults, no_text}
use Rattle.json_model.proofs.leaves.find_by_text.Goals as goal

pub returns-in-Some : goal.returns-in-Some
returns-in-Some c = text_faults _ _ _ _ c.find_in_leaf_text.result c.in-Some.ensures c.find_in_leaf_text.ensures

pub returns-in-None : goal.returns-in-None
returns-in-None c = no_text _ _ _ c.bad_shape_unless.result c.in-None.ensures c.bad_shape_unless.ensures
