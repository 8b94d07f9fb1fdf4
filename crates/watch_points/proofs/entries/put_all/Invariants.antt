use Rattle.std.proofs.Common.{◌≡◌, fold}
use Rattle.std.specs.BTreeMap.{get}
use Rattle.std.specs.Vec.Iter.{into_iter_items}
use Rattle.durable_state.specs.Tables.{state_in}
use Rattle.listen_protocol.specs.Calls.{Key, key_cmp}
use Rattle.watch_points.specs.Steps.{put_of, put_over}
use Rattle.watch_points.proofs.entries.put_all.Given as goal

abbrev pub invariant-loop-key : goal.invariant-loop-key
invariant-loop-key l = (k : Key) → fold (put_over (state_in l.tables) k) (get key_cmp l.table k) (into_iter_items l.key-iterator) ≡ put_of (state_in l.tables) l.fn.entries.items k
