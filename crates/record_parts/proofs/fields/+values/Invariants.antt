use Rattle.std.proofs.Common.{◌+◌, ◌*◌}
use Rattle.std.specs.List.{flat_map}
use Rattle.record_parts.specs.Spelling.{value, IsSpelledValue}
use Rattle.record_parts.specs.Kinds.{field, IsSpelledField}
use Rattle.record_parts.specs.Reading.{Begins, AreMany}
use Rattle.record_parts.proofs.fields.+values.Given as goal

abbrev pub decreases-value_of : goal.decreases-value_of
decreases-value_of l = 6 * l.limit + 5

abbrev pub decreases-values_of : goal.decreases-values_of
decreases-values_of l = 6 * l.limit + 9

abbrev pub decreases-array_of : goal.decreases-array_of
decreases-array_of l = 6 * l.limit + 4

abbrev pub decreases-map_of : goal.decreases-map_of
decreases-map_of l = 6 * l.limit + 4

abbrev pub decreases-field_of : goal.decreases-field_of
decreases-field_of l = 6 * l.limit + 7

abbrev pub decreases-entries_of : goal.decreases-entries_of
decreases-entries_of l = 6 * l.limit + 8

abbrev pub decreases-fields_of : goal.decreases-fields_of
decreases-fields_of l = 6 * l.limit + 9

abbrev pub invariant-values_of-loop : goal.invariant-values_of-loop
invariant-values_of-loop l = Begins (flat_map value) (AreMany (IsSpelledValue l.limit) l.counter) l.initial.rest l.values.items l.rest

abbrev pub invariant-entries_of-loop : goal.invariant-entries_of-loop
invariant-entries_of-loop l = Begins (flat_map field) (AreMany (IsSpelledField l.limit) l.counter) l.initial.rest l.entries.items l.rest
