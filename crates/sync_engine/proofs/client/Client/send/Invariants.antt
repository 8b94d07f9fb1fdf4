use Rattle.sync_engine.proofs.Sent.{Sending}
use Rattle.sync_engine.proofs.client.Client.send.Given as goal

abbrev pub invariant-loop : goal.invariant-loop
invariant-loop l = record { sending : Sending l.fn.self l.self l.fn.outs.items l.outs.items l.counter }
