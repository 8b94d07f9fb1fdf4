use Rattle.std.proofs.Common.{◌≡◌, take}
use Rattle.serde_json.specs.View.{items_view}
use Rattle.json_model.specs.Forms.{printed_each}
use Rattle.json_queries.specs.Printed.{printed_order}
use Rattle.json_queries.proofs.order.print_items.Given as goal

abbrev pub invariant-loop-order : goal.invariant-loop-order
invariant-loop-order l = items_view l.trees.items ≡ printed_each printed_order (take l.order-index l.orders)
