use Rattle.sync_engine.proofs.Moved.{CurrentSoFar}
use Rattle.sync_engine.proofs.client.Client.current_of.Given as goal

abbrev pub invariant-loop-target : goal.invariant-loop-target
invariant-loop-target l = CurrentSoFar l.self.listeners l.yielded l.current.targets.items
