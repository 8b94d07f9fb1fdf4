use Rattle.json_model.proofs.PrintedLists.{printed_more}
use Rattle.json_model.specs.Printed.{printed_value}
use Rattle.json_queries.proofs.cursor.print_values.Goals as goal

pub loop-value-preserved : goal.loop-value-preserved
loop-value-preserved c = printed_more printed_value _ _ c.in_ok-print_value.field-0 _ c.loop-value.value-index c.value-item.result c.loop-value-test.true c.value-item.is c.in_ok-push.ensures.items c.in_ok-print_value.ensures c.loop-value.invariant
