use Rattle.std.proofs.Common.{◌≡◌, ◌++◌}
use Rattle.sync_engine.proofs.settling.in_order.Given as goal

abbrev pub invariant-loop-id : goal.invariant-loop-id
invariant-loop-id l = record { split : l.initial.id-iterator ≡ l.ids.items ++ l.id-iterator }
