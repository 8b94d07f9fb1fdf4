use Rattle.std.proofs.Common.{ℕ, take}
use Rattle.std.specs.List.{All}
use Rattle.durable_state.specs.Rows.{IsHeld}
use Rattle.durable_state.proofs.fitting.is_one_held.Given as goal

abbrev pub invariant-loop-id : goal.invariant-loop-id
invariant-loop-id l = All (λ (id : ℕ). ¬ (IsHeld l.targets.rows id)) (take l.id-index l.ids)
