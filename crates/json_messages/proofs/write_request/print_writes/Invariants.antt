use Rattle.std.proofs.Common.{◌≡◌, take}
use Rattle.serde_json.specs.View.{items_view}
use Rattle.json_model.specs.Forms.{printed_each}
use Rattle.json_rpc.specs.Printed.{printed_write}
use Rattle.json_messages.proofs.write_request.print_writes.Given as goal

abbrev pub invariant-loop-write : goal.invariant-loop-write
invariant-loop-write l = items_view l.trees.items ≡ printed_each (printed_write l.root) (take l.write-index l.writes)
