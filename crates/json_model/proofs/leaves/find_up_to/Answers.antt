use Rattle.serde_json.specs.View.{view}
use Rattle.json_model.specs.Numbers.{SpellsUpTo}
use Rattle.json_model.proofs.Kinded.{unless_found}
use Rattle.json_model.proofs.leaves.find_up_to.Goals as goal

pub returns : goal.returns
returns c = unless_found (SpellsUpTo c.args.most (view c.args.json.now)) _ c.read_up_to-number.result _ c.bad_shape_unless.result c.read_up_to-number.ensures c.is_some.ensures c.bad_shape_unless.ensures
