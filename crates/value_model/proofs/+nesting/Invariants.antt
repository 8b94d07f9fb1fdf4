use Rattle.std.proofs.Common.{◌+◌, ◌*◌, ◌≤◌, take}
use Rattle.value_model.specs.Data.{items_depth, items_of, entries_depth}
use Rattle.value_model.specs.Named.{fields_data}
use Rattle.value_model.proofs.+nesting.Given as goal

abbrev pub decreases-value::Value::nests_within : goal.decreases-value::Value::nests_within
decreases-value::Value::nests_within l = 2 * l.limit

abbrev pub decreases-nesting::values_nest_within : goal.decreases-nesting::values_nest_within
decreases-nesting::values_nest_within l = 2 * l.limit + 1

abbrev pub decreases-nesting::fields_nest_within : goal.decreases-nesting::fields_nest_within
decreases-nesting::fields_nest_within l = 2 * l.limit + 1

abbrev pub invariant-nesting::values_nest_within-loop-value : goal.invariant-nesting::values_nest_within-loop-value
invariant-nesting::values_nest_within-loop-value l = items_depth (items_of (take l.value-index l.values)) ≤ l.limit

abbrev pub invariant-nesting::fields_nest_within-loop-field : goal.invariant-nesting::fields_nest_within-loop-field
invariant-nesting::fields_nest_within-loop-field l = entries_depth (fields_data (take l.field-index l.fields)) ≤ l.limit
