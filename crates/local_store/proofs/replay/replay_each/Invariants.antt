use Rattle.std.proofs.Common.{length}
use Rattle.durable_state.specs.Tables.{state_in}
use Rattle.local_store.proofs.Replayed.{HasReplayed}
use Rattle.local_store.proofs.replay.replay_each.Given as goal

abbrev pub invariant-payloads : goal.invariant-payloads
invariant-payloads l = HasReplayed (state_in l.initial.tables) l.initial.rest l.rest (state_in l.tables)

abbrev pub decreases-payloads : goal.decreases-payloads
decreases-payloads l = length l.rest
