use Rattle.json_model.proofs.Kinded.{unless_test}
use Rattle.json_model.proofs.leaves.find_in_server_time.Goals as goal

pub returns : goal.returns
returns c = unless_test _ _ c.is_server_time.result c.bad_shape_unless.result c.is_server_time.ensures.0 c.is_server_time.ensures.1 c.bad_shape_unless.ensures
