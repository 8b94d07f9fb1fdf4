use Rattle.std.proofs.Common.{◌≡◌, ◌+◌, ◌*◌, ◌++◌, length, take}
use Rattle.std.specs.List.{flat_map}
use Rattle.value_model.specs.Data.{items_of}
use Rattle.value_model.specs.Codes.{data_size, items_size, entries_size}
use Rattle.record_parts.specs.Spelling.{number, value}
use Rattle.record_parts.specs.Kinds.{field}
use Rattle.record_parts.proofs.writing.+putting.Given as goal

abbrev pub decreases-put_value : goal.decreases-put_value
decreases-put_value l = 2 * data_size l.content.now + 1

abbrev pub decreases-put_fields : goal.decreases-put_fields
decreases-put_fields l = 2 * entries_size l.content.now

abbrev pub decreases-put_values : goal.decreases-put_values
decreases-put_values l = 2 * items_size (items_of l.values.now)

abbrev pub invariant-put_values-loop-value : goal.invariant-put_values-loop-value
invariant-put_values-loop-value l = l.out.items ≡ (l.fn.out.items ++ number (length l.values)) ++ flat_map value (take l.value-index l.values)

abbrev pub invariant-put_fields-loop-entry : goal.invariant-put_fields-loop-entry
invariant-put_fields-loop-entry l = l.out.items ≡ (l.fn.out.items ++ number (length l.entries)) ++ flat_map field (take l.entry-index l.entries)
