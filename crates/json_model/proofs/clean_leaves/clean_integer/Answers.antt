use Rattle.std.proofs.Common.{w64, subst, sym}
use Rattle.std.proofs.lemmas.Int.{to_z-of_z}
use Rattle.serde_json.specs.View.{view}
use Rattle.json_model.specs.Numbers.{SpellsWhole}
use Rattle.json_model.proofs.Stored.{whole_fits}
use Rattle.json_model.proofs.clean_leaves.clean_integer.Goals as goal

pub unreachable-requires : goal.unreachable-requires
unreachable-requires c = (rw c.in-None.is at c.read_whole.ensures) c.show_leaf.ensures.0 c.show_leaf.ensures.1

pub returns : goal.returns
returns c =
    let spelled = rw c.in-Some.is at c.read_whole.ensures in
    subst (SpellsWhole (view c.args.json.now)) (sym (to_z-of_z w64 c.in-Some.number (whole_fits _ _ spelled))) spelled
