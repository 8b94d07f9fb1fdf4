use Rattle.std.proofs.Common.{◌≡◌, ◌++◌, map, take}
use Rattle.queries.specs.Orders.{order_by}
use Rattle.queries.proofs.whole_orders.extend.Given as goal

abbrev pub invariant-loop-path : goal.invariant-loop-path
invariant-loop-path l = l.orders.items ≡ l.fn.explicit ++ map (order_by l.descending) (take l.path-index l.added)
