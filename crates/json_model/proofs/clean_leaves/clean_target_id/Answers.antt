use Rattle.std.proofs.Common.{w32, subst, sym}
use Rattle.std.proofs.lemmas.Int.{to_z-of_z}
use Rattle.serde_json.specs.View.{view}
use Rattle.json_model.specs.Numbers.{SpellsShort}
use Rattle.json_model.proofs.clean_leaves.clean_target_id.Goals as goal

pub returns : goal.returns
returns c = subst (SpellsShort (view c.args.json.now)) (sym (to_z-of_z w32 c.clean_short.result c.clean_short.ensures.fits)) c.clean_short.ensures
