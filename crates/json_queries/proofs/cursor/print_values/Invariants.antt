use Rattle.std.proofs.Common.{◌≡◌, take}
use Rattle.serde_json.specs.View.{items_view}
use Rattle.json_model.specs.Forms.{printed_each}
use Rattle.json_model.specs.Printed.{printed_value}
use Rattle.json_queries.proofs.cursor.print_values.Given as goal

abbrev pub invariant-loop-value : goal.invariant-loop-value
invariant-loop-value l = items_view l.trees.items ≡ printed_each printed_value (take l.value-index l.values)
