use Rattle.std.proofs.Common.{◌≡◌, take}
use Rattle.std.specs.List.{All}
use Rattle.queries.proofs.whole_orders.are_by.Given as goal

abbrev pub invariant-loop-order : goal.invariant-loop-order
invariant-loop-order l = All (λ o. o.path ≡ l.path → ⊥) (take l.order-index l.orders)
