use Rattle.std.proofs.Common.{◌≡◌, ◌++◌, List, ℕ, IsTrue}
use Rattle.std.specs.Vec.Iter.{into_iter_items}
use Rattle.key_table.specs.Table.{has_key}
use Rattle.overlays.specs.Table.{overlay_of}
use Rattle.durable_state.specs.Ready.{put_over}
use Rattle.durable_state.proofs.applying.lay.Given as goal

abbrev pub invariant-loop-overlay : goal.invariant-loop-overlay
invariant-loop-overlay l = record {
  split : l.fn.laid.items ≡ l.yielded ++ into_iter_items l.overlay-iterator;
  put : (q : List (List ℕ)) → overlay_of l.overlays q ≡ put_over q (overlay_of l.initial.overlays q) l.yielded;
  places : (q : List (List ℕ)) → IsTrue (has_key l.initial.overlays q) → IsTrue (has_key l.overlays q);
}
