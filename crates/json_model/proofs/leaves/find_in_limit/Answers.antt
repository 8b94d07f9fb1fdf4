use Rattle.serde_json.specs.View.{view}
use Rattle.json_model.specs.Numbers.{SpellsShort}
use Rattle.json_model.proofs.Kinded.{unless_found}
use Rattle.json_model.proofs.leaves.find_in_limit.Goals as goal

pub returns : goal.returns
returns c = unless_found (SpellsShort (view c.args.json.now)) _ c.read_short-number.result _ c.bad_shape_unless.result c.read_short-number.ensures c.is_some.ensures c.bad_shape_unless.ensures
