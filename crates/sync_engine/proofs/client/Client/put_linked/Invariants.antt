use Rattle.std.proofs.Common.{◌≡◌, Some, take}
use Rattle.listeners.specs.Table.{target_of}
use Rattle.sync_engine.proofs.Moved.{HasAll}
use Rattle.sync_engine.proofs.client.Client.put_linked.Given as goal

abbrev pub invariant-loop-target : goal.invariant-loop-target
invariant-loop-target l = HasAll (λ t id. target_of l.self.listeners id ≡ Some t) (take l.target-index l.targets) l.initial.set l.set
