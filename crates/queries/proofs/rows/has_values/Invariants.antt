use Rattle.std.proofs.Common.{take}
use Rattle.std.specs.List.{All}
use Rattle.queries.specs.Found.{standing_at}
use Rattle.queries.proofs.Ordered.{IsThere}
use Rattle.queries.proofs.rows.has_values.Given as goal

abbrev pub invariant-loop-order : goal.invariant-loop-order
invariant-loop-order l = All (IsThere (standing_at l.candidate)) (take l.order-index l.orders)
