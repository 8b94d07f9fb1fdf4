use Rattle.std.proofs.Common.{◌≡◌, Some, take}
use Rattle.listeners.specs.Table.{target_of}
use Rattle.sync_engine.proofs.Moved.{HasAll}
use Rattle.sync_engine.proofs.client.Client.put_current.Given as goal

abbrev pub invariant-loop-target : goal.invariant-loop-target
invariant-loop-target l = HasAll (λ target id. target_of l.self.listeners id ≡ Some target.id) (take l.target-index l.target-items) l.initial.set l.set
