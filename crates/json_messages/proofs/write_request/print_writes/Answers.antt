use Rattle.json_model.proofs.PrintedLists.{printed_more}
use Rattle.json_rpc.specs.Printed.{printed_write}
use Rattle.json_messages.proofs.write_request.print_writes.Goals as goal

pub loop-write-preserved : goal.loop-write-preserved
loop-write-preserved c = printed_more (printed_write c.args.root.now) _ _ c.in_ok-print_write.field-0 _ c.loop-write.write-index c.write-item.result c.loop-write-test.true c.write-item.is c.in_ok-push.ensures.items c.in_ok-print_write.ensures.tree c.loop-write.invariant
