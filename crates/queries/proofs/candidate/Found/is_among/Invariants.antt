use Rattle.std.proofs.Common.{◌≡◌, take}
use Rattle.std.specs.List.{All}
use Rattle.queries.specs.Found.{found_data}
use Rattle.queries.proofs.candidate.Found.is_among.Given as goal

abbrev pub invariant-loop-value : goal.invariant-loop-value
invariant-loop-value l = All (λ v. found_data l.self ≡ v → ⊥) (take l.value-index l.values)
