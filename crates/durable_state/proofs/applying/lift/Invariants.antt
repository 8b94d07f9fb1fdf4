use Rattle.std.proofs.Common.{◌≡◌, ◌++◌, List, ℕ}
use Rattle.std.specs.Vec.Iter.{into_iter_items}
use Rattle.overlays.specs.Table.{overlay_of}
use Rattle.durable_state.specs.Ready.{lift_over}
use Rattle.durable_state.proofs.applying.lift.Given as goal

abbrev pub invariant-loop-key : goal.invariant-loop-key
invariant-loop-key l = record {
  split : l.fn.keys.items ≡ l.yielded ++ into_iter_items l.key-iterator;
  lifted : (q : List (List ℕ)) → overlay_of l.overlays q ≡ lift_over q (overlay_of l.initial.overlays q) l.yielded;
}
