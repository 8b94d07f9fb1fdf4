use Rattle.listeners.proofs.Ids.{IsAdded}
use Rattle.listeners.proofs.listeners.add_concerned.Given as goal

abbrev pub invariant-loop-id : goal.invariant-loop-id
invariant-loop-id l = IsAdded l.listeners.entries l.key l.initial.id-iterator l.id-iterator l.initial.ids l.ids
