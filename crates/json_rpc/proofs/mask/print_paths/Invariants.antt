use Rattle.std.proofs.Common.{◌≡◌, take}
use Rattle.serde_json.specs.View.{items_view}
use Rattle.json_model.specs.Forms.{printed_each}
use Rattle.json_rpc.specs.Printed.{path_tree}
use Rattle.json_rpc.proofs.mask.print_paths.Given as goal

abbrev pub invariant-loop-path : goal.invariant-loop-path
invariant-loop-path l = items_view l.trees.items ≡ printed_each path_tree (take l.path-index l.paths)
