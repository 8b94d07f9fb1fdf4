use Rattle.std.proofs.Common.{◌≡◌, take}
use Rattle.std.specs.BTreeMap.{get}
use Rattle.durable_state.specs.Tables.{state_in}
use Rattle.listen_protocol.specs.Calls.{Key, key_cmp}
use Rattle.watch_points.specs.Steps.{missed_of}
use Rattle.watch_points.proofs.entries.miss_all.Given as goal

abbrev pub invariant-loop-target : goal.invariant-loop-target
invariant-loop-target l = (k : Key) → get key_cmp l.table k ≡ missed_of (state_in l.tables) l.at (take l.target-index l.targets) k (get key_cmp l.fn.table k)
