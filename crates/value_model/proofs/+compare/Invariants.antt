use Rattle.std.proofs.Common.{◌≡◌, ◌+◌, ◌*◌, take}
use Rattle.value_model.specs.Data.{items_of}
use Rattle.value_model.specs.Codes.{data_size, items_size, entries_size}
use Rattle.value_model.specs.Named.{fields_data}
use Rattle.value_model.proofs.+compare.Given as goal

abbrev pub decreases-value::Value::compare : goal.decreases-value::Value::compare
decreases-value::Value::compare l = 2 * data_size l.self.now + 1

abbrev pub decreases-order::compare_values : goal.decreases-order::compare_values
decreases-order::compare_values l = 2 * items_size (items_of l.left.now)

abbrev pub decreases-order::compare_fields : goal.decreases-order::compare_fields
decreases-order::compare_fields l = 2 * entries_size (fields_data l.fields.now)

abbrev pub invariant-order::compare_values-loop-i : goal.invariant-order::compare_values-loop-i
invariant-order::compare_values-loop-i l = take l.i l.left ≡ take l.i l.right

abbrev pub invariant-order::compare_fields-loop-i : goal.invariant-order::compare_fields-loop-i
invariant-order::compare_fields-loop-i l = take l.i (fields_data l.fields) ≡ take l.i (fields_data l.others)
