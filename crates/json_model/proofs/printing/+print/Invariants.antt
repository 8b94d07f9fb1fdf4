use Rattle.std.proofs.Common.{◌≡◌, ◌+◌, ◌*◌, take}
use Rattle.serde_json.specs.View.{items_view, members_view}
use Rattle.value_model.specs.Data.{items_of, members_of}
use Rattle.value_model.specs.Codes.{data_size, items_size, entries_size}
use Rattle.value_model.specs.Named.{fields_data}
use Rattle.json_model.specs.Printed.{printed_items, printed_members}
use Rattle.json_model.proofs.printing.+print.Given as goal

abbrev pub decreases-print_value : goal.decreases-print_value
decreases-print_value l = 2 * data_size l.value.now + 1

abbrev pub decreases-print_values : goal.decreases-print_values
decreases-print_values l = 2 * items_size (items_of l.values.now)

abbrev pub decreases-print_members : goal.decreases-print_members
decreases-print_members l = 2 * entries_size l.fields.now

abbrev pub invariant-print_values-loop-value : goal.invariant-print_values-loop-value
invariant-print_values-loop-value l = items_view l.trees.items ≡ printed_items (items_of (take l.value-index l.values))

abbrev pub invariant-print_members-loop-field : goal.invariant-print_members-loop-field
invariant-print_members-loop-field l = members_view l.members.entries ≡ printed_members (members_of (fields_data (take l.field-index l.field-items)))
