use Rattle.std.proofs.Common.{◌≡◌, List, take}
use Rattle.value_model.specs.Data.{Data}
use Rattle.queries.specs.Found.{standing_at}
use Rattle.queries.specs.Rows.{HasValues}
use Rattle.queries.proofs.rows.compare_to_values.Given as goal

abbrev pub invariant-loop-i : goal.invariant-loop-i
invariant-loop-i l = (xs : List Data) → HasValues (standing_at l.candidate) l.orders xs → take l.i xs ≡ take l.i l.values
