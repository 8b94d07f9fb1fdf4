use Rattle.std.proofs.Common.{◌+◌, ◌*◌, drop}
use Rattle.value_model.specs.Data.{items_of, members_of}
use Rattle.value_model.specs.Codes.{data_size, items_size, entries_size}
use Rattle.value_model.specs.Named.{fields_data}
use Rattle.json_model.specs.Printed.{printed_items, printed_members}
use Rattle.json_text.specs.Puts.{tokens_of_items, tokens_of_members}
use Rattle.json_text.proofs.Adding.{IsPartOf}
use Rattle.json_text.proofs.values.+put.Given as goal

abbrev pub decreases-put_value : goal.decreases-put_value
decreases-put_value l = 3 * data_size l.value.now + 2

abbrev pub decreases-put_array : goal.decreases-put_array
decreases-put_array l = 3 * items_size (items_of l.values.now) + 1

abbrev pub decreases-put_items : goal.decreases-put_items
decreases-put_items l = 3 * items_size (items_of l.values.now)

abbrev pub decreases-put_map : goal.decreases-put_map
decreases-put_map l = 3 * entries_size l.fields.now + 1

abbrev pub decreases-put_each : goal.decreases-put_each
decreases-put_each l = 3 * entries_size l.fields.now

abbrev pub invariant-put_items-loop-value : goal.invariant-put_items-loop-value
invariant-put_items-loop-value l = IsPartOf l.fn.out l.out (tokens_of_items (printed_items (items_of (drop l.value-index l.values)))) (tokens_of_items (printed_items (items_of l.values)))

abbrev pub invariant-put_each-loop-field : goal.invariant-put_each-loop-field
invariant-put_each-loop-field l =
    IsPartOf l.fn.out l.out (tokens_of_members (printed_members (members_of (fields_data (drop l.field-index l.field-items))))) (tokens_of_members (printed_members (members_of (fields_data l.field-items))))
