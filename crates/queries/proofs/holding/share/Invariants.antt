use Rattle.std.proofs.Common.{take}
use Rattle.std.specs.List.{All, Contains}
use Rattle.queries.proofs.holding.share.Given as goal

abbrev pub invariant-loop-value : goal.invariant-loop-value
invariant-loop-value l = All (λ v. Contains l.others v → ⊥) (take l.value-index l.values)
