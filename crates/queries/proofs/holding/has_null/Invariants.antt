use Rattle.std.proofs.Common.{◌≡◌, take}
use Rattle.std.specs.List.{All}
use Rattle.value_model.specs.Data as Data
use Rattle.queries.proofs.holding.has_null.Given as goal

abbrev pub invariant-loop-value : goal.invariant-loop-value
invariant-loop-value l = All (λ v. v ≡ Data.null → ⊥) (take l.value-index l.values)
