use Rattle.value_model.proofs.Named.{AdjacentBelow}
use Rattle.value_model.proofs.names.are_ascending.Given as goal

abbrev pub invariant-loop-i : goal.invariant-loop-i
invariant-loop-i l = AdjacentBelow l.fields l.i
