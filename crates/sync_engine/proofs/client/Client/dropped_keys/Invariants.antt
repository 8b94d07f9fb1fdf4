use Rattle.std.proofs.Common.{take}
use Rattle.client_turns.specs.Hearing.{AreDropped}
use Rattle.sync_engine.proofs.client.Client.dropped_keys.Given as goal

abbrev pub invariant-loop-id : goal.invariant-loop-id
invariant-loop-id l = record { dropped : AreDropped l.self.limbo.limbo (take l.id-index l.ids) l.keys }
