use Rattle.json_model.proofs.Kinded.{unless_test}
use Rattle.json_model.proofs.leaves.find_in_null.Goals as goal

pub returns : goal.returns
returns c = unless_test _ _ c.is_null_tree.result c.bad_shape_unless.result c.is_null_tree.ensures.0 c.is_null_tree.ensures.1 c.bad_shape_unless.ensures
