use Rattle.json_model.proofs.PrintedLists.{printed_more}
use Rattle.json_queries.specs.Printed.{printed_order}
use Rattle.json_queries.proofs.order.print_items.Goals as goal

pub loop-order-preserved : goal.loop-order-preserved
loop-order-preserved c = printed_more printed_order _ _ c.in_ok-print_order.field-0 _ c.loop-order.order-index c.order-item.result c.loop-order-test.true c.order-item.is c.in_ok-push.ensures.items c.in_ok-print_order.ensures c.loop-order.invariant
