use Rattle.std.proofs.Common.{take}
use Rattle.listeners.specs.Concerns.{IsConcerned}
use Rattle.sync_engine.proofs.Moved.{HasAll}
use Rattle.sync_engine.proofs.client.Client.put_concerned.Given as goal

abbrev pub invariant-loop-entry : goal.invariant-loop-entry
invariant-loop-entry l = HasAll (λ e id. IsConcerned l.self.listeners e.key id) (take l.entry-index l.entries) l.initial.set l.set
