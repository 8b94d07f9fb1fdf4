use Rattle.std.proofs.Common.{◌≡◌, ◌+◌, ◌*◌, take, map as each}
use Rattle.value_model.specs.Data.{items_of}
use Rattle.value_model.specs.Codes.{data_size, items_size, entries_size}
use Rattle.value_model.specs.Named.{fields_data}
use Rattle.views.specs.Printed.{printed_fields, printed_value}
use Rattle.views.proofs.printed.+printing.Given as goal

abbrev pub decreases-is_printed_as : goal.decreases-is_printed_as
decreases-is_printed_as l = 2 * data_size l.value.now + 1

abbrev pub decreases-are_printed_as : goal.decreases-are_printed_as
decreases-are_printed_as l = 2 * items_size (items_of l.values.now)

abbrev pub decreases-fields_are_printed_as : goal.decreases-fields_are_printed_as
decreases-fields_are_printed_as l = 2 * entries_size (fields_data l.fields.now)

-- those so far are printed the same
abbrev pub invariant-are_printed_as-loop-i : goal.invariant-are_printed_as-loop-i
invariant-are_printed_as-loop-i l = each printed_value (take l.i l.values) ≡ each printed_value (take l.i l.others)

abbrev pub invariant-fields_are_printed_as-loop-i : goal.invariant-fields_are_printed_as-loop-i
invariant-fields_are_printed_as-loop-i l = printed_fields (fields_data (take l.i l.fields)) ≡ printed_fields (fields_data (take l.i l.others))
