use Rattle.sync_engine.proofs.Settled.{Settling}
use Rattle.sync_engine.proofs.client.Client.settle.Given as goal

abbrev pub invariant-loop-id : goal.invariant-loop-id
invariant-loop-id l = record { settling : Settling l.fn.self l.self l.fn.outs.items l.outs.items l.fn.ids l.id-index }
