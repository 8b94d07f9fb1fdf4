use Rattle.std.proofs.Common.{take}
use Rattle.listeners.specs.Concerns.{IsConcerned}
use Rattle.sync_engine.proofs.Moved.{HasAll}
use Rattle.sync_engine.proofs.client.Client.put_touched.Given as goal

abbrev pub invariant-loop-key : goal.invariant-loop-key
invariant-loop-key l = HasAll (λ key id. IsConcerned l.self.listeners key id) (take l.key-index l.key-items) l.initial.set l.set
