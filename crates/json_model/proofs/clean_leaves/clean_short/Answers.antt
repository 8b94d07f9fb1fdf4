use Rattle.std.proofs.Common.{w32, subst, sym}
use Rattle.std.proofs.lemmas.Int.{to_z-of_z}
use Rattle.serde_json.specs.View.{view}
use Rattle.json_model.specs.Numbers.{SpellsShort}
use Rattle.json_model.proofs.clean_leaves.clean_short.Goals as goal

pub unreachable-requires : goal.unreachable-requires
unreachable-requires c = (rw c.in-None.is at c.read_short.ensures) c.requires.0 c.requires.1

pub returns : goal.returns
returns c =
    let spelled = rw c.in-Some.is at c.read_short.ensures in
    subst (SpellsShort (view c.args.json.now)) (sym (to_z-of_z w32 c.in-Some.number spelled.fits)) spelled
