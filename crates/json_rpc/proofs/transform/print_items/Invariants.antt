use Rattle.std.proofs.Common.{◌≡◌, take}
use Rattle.serde_json.specs.View.{items_view}
use Rattle.json_model.specs.Forms.{printed_each}
use Rattle.json_rpc.specs.Printed.{printed_transform}
use Rattle.json_rpc.proofs.transform.print_items.Given as goal

abbrev pub invariant-loop-transform : goal.invariant-loop-transform
invariant-loop-transform l = items_view l.trees.items ≡ printed_each printed_transform (take l.transform-index l.transforms)
