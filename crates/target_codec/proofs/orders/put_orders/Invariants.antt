use Rattle.std.proofs.Common.{◌≡◌, ◌++◌, length, take}
use Rattle.std.specs.List.{flat_map}
use Rattle.record_parts.specs.Spelling.{number}
use Rattle.target_codec.specs.Spelling.{order}
use Rattle.target_codec.proofs.orders.put_orders.Given as goal

abbrev pub invariant-loop-order : goal.invariant-loop-order
invariant-loop-order l = l.out.items ≡ (l.fn.out.items ++ number (length l.orders)) ++ flat_map order (take l.order-index l.orders)
