use Rattle.std.proofs.Common.{◌∙◌, sym, arith, rules}
use Rattle.std.specs.Ordering.{nat_cmp}
use Rattle.value_model.proofs.Exact.{ranks_values, ranked_paths}
use Rattle.value_model.proofs.ByRank.{not_null, not_boolean, not_integer, not_time, not_pending, not_text, not_bytes, not_reference, not_array, not_map}
use Rattle.value_model.proofs.Loops.{values_apart, values_end, names_apart, fields_differ, fields_on, fields_end}
use Rattle.value_model.proofs.Sizes.{item_below, field_below}
use Rattle.value_model.proofs.+compare.Goals as goal
use Rattle.value_model.proofs.+compare.Goals.{value::Value::compare-in_default-via-in-Null+in_default, value::Value::compare-in_default-via-in-Boolean+in_default, value::Value::compare-in_default-via-in-Integer+in_default, value::Value::compare-in_default-via-in-Time+in_default, value::Value::compare-in_default-via-in-Pending+in_default, value::Value::compare-in_default-via-in-Text+in_default, value::Value::compare-in_default-via-in-Bytes+in_default, value::Value::compare-in_default-via-in-Reference+in_default, value::Value::compare-in_default-via-in-Array+in_default, value::Value::compare-in_default-via-in-Map+in_default}

pub value::Value::compare-returns-in-Boolean-Boolean : goal.value::Value::compare-returns-in-Boolean-Boolean
value::Value::compare-returns-in-Boolean-Boolean t c = ranks_values c.cmp.result c.args.self.now c.args.other.now (rw (← c.self.view_is, ← c.other.view_is, c.in-Boolean-Boolean.is-0, c.in-Boolean-Boolean.is-1) c.cmp.ensures)

pub value::Value::compare-returns-in-Integer-Integer : goal.value::Value::compare-returns-in-Integer-Integer
value::Value::compare-returns-in-Integer-Integer t c = ranks_values c.cmp-in-Integer-Integer.result c.args.self.now c.args.other.now (rw (← c.self.view_is, ← c.other.view_is, c.in-Integer-Integer.is-0, c.in-Integer-Integer.is-1) c.cmp-in-Integer-Integer.ensures)

pub value::Value::compare-returns-in-Time-Time : goal.value::Value::compare-returns-in-Time-Time
value::Value::compare-returns-in-Time-Time t c = ranks_values c.cmp-in-Time-Time.result c.args.self.now c.args.other.now (rw (← c.self.view_is, ← c.other.view_is, c.in-Time-Time.is-0, c.in-Time-Time.is-1) c.cmp-in-Time-Time.ensures)

pub value::Value::compare-returns-in-Pending-Pending : goal.value::Value::compare-returns-in-Pending-Pending
value::Value::compare-returns-in-Pending-Pending t c = ranks_values c.cmp-in-Pending-Pending.result c.args.self.now c.args.other.now (rw (← c.self.view_is, ← c.other.view_is, c.in-Pending-Pending.is-0, c.in-Pending-Pending.is-1) c.cmp-in-Pending-Pending.ensures)

pub value::Value::compare-returns-in-Text-Text : goal.value::Value::compare-returns-in-Text-Text
value::Value::compare-returns-in-Text-Text t c = ranks_values c.cmp-in-Text-Text.result c.args.self.now c.args.other.now (rw (← c.self.view_is, ← c.other.view_is, c.in-Text-Text.is-0, c.in-Text-Text.is-1) c.cmp-in-Text-Text.ensures)

pub value::Value::compare-returns-in-Bytes-Bytes : goal.value::Value::compare-returns-in-Bytes-Bytes
value::Value::compare-returns-in-Bytes-Bytes t c = ranks_values c.cmp-in-Bytes-Bytes.result c.args.self.now c.args.other.now (rw (← c.self.view_is, ← c.other.view_is, c.in-Bytes-Bytes.is-0, c.in-Bytes-Bytes.is-1, ← c.as_slice.ensures, ← c.as_slice-in-Bytes-Bytes.ensures) c.cmp-in-Bytes-Bytes.ensures)

pub value::Value::compare-returns-in-Reference-Reference : goal.value::Value::compare-returns-in-Reference-Reference
value::Value::compare-returns-in-Reference-Reference t c = ranks_values c.compare.result c.args.self.now c.args.other.now (rw (← c.self.view_is, ← c.other.view_is, c.in-Reference-Reference.is-0, c.in-Reference-Reference.is-1, ← c.deref.ensures, ← c.deref-in-Reference-Reference.ensures) (ranked_paths c.compare.result c.deref.result.now c.deref-in-Reference-Reference.result.now c.compare.ensures))

pub value::Value::compare-returns-in_default : goal.value::Value::compare-returns-in_default
value::Value::compare-returns-in_default t c =
    let result = c.cmp-in_default.ensures ∙ (λ i. nat_cmp (c.rank.ensures i) (c.rank-in_default.ensures i)) in
    let k = c.self.inside.kind in
    let l = c.other.inside.kind in
    ranks_values c.cmp-in_default.result c.args.self.now c.args.other.now (result ∙ rw (← c.self.view_is, ← c.other.view_is) (sym (elim c.in_default.branch [
      | value::Value::compare-in_default-via-in-Null+in_default w ↦ not_null k l w.in_default.is-0 w.in_default.not-Null-1
      | value::Value::compare-in_default-via-in-Boolean+in_default w ↦ not_boolean k l w.in_default.field-0-0 w.in_default.is-0 w.in_default.not-Boolean-1
      | value::Value::compare-in_default-via-in-Integer+in_default w ↦ not_integer k l w.in_default.field-0-0 w.in_default.is-0 w.in_default.not-Integer-1
      | value::Value::compare-in_default-via-in-Time+in_default w ↦ not_time k l w.in_default.field-0-0 w.in_default.is-0 w.in_default.not-Time-1
      | value::Value::compare-in_default-via-in-Pending+in_default w ↦ not_pending k l w.in_default.field-0-0 w.in_default.is-0 w.in_default.not-Pending-1
      | value::Value::compare-in_default-via-in-Text+in_default w ↦ not_text k l w.in_default.field-0-0 w.in_default.is-0 w.in_default.not-Text-1
      | value::Value::compare-in_default-via-in-Bytes+in_default w ↦ not_bytes k l w.in_default.field-0-0 w.in_default.is-0 w.in_default.not-Bytes-1
      | value::Value::compare-in_default-via-in-Reference+in_default w ↦ not_reference k l w.in_default.field-0-0 w.in_default.is-0 w.in_default.not-Reference-1
      | value::Value::compare-in_default-via-in-Array+in_default w ↦ not_array k l w.in_default.field-0-0 w.in_default.is-0 w.in_default.not-Array-1
      | value::Value::compare-in_default-via-in-Map+in_default w ↦ not_map k l w.in_default.field-0-0 w.in_default.is-0 w.in_default.not-Map-1
    ])))

pub order::compare_values-compare-order-requires : goal.order::compare_values-compare-order-requires
order::compare_values-compare-order-requires t c = let within = item_below c.args.left.now c.loop-i.i c.index-left-i.result (omega arith) in search rules

pub order::compare_fields-compare-values-requires : goal.order::compare_fields-compare-values-requires
order::compare_fields-compare-values-requires t c = let within = field_below c.args.fields.now c.loop-i.i c.index-fields-i-in-loop-i.result (omega arith) in search rules

pub order::compare_values-returns-then-is_ne : goal.order::compare_values-returns-then-is_ne
order::compare_values-returns-then-is_ne t c = values_apart c.args.left.now c.args.right.now c.loop-i.i c.index-left-i.result c.index-right-i.result c.compare-order.result c.loop-i.invariant (omega arith) (omega arith) c.index-left-i.is c.index-right-i.is c.compare-order.ensures (sym c.is_ne.ensures ∙ c.if-is_ne.true)

pub order::compare_values-returns : goal.order::compare_values-returns
order::compare_values-returns t c = values_end c.args.left.now c.args.right.now c.loop-i.i c.cmp.result c.loop-i.invariant (omega arith) c.cmp.ensures

pub order::compare_fields-returns : goal.order::compare_fields-returns
order::compare_fields-returns t c = fields_end c.args.fields.now c.args.others.now c.loop-i.i c.cmp.result c.loop-i.invariant (omega arith) c.cmp.ensures

pub order::compare_fields-returns-then-is_ne : goal.order::compare_fields-returns-then-is_ne
order::compare_fields-returns-then-is_ne t c = names_apart c.args.fields.now c.args.others.now c.loop-i.i c.index-fields-i.result c.index-others-i.result c.cmp-names.result c.loop-i.invariant (omega arith) (omega arith) c.cmp-names.ensures (sym c.is_ne.ensures ∙ c.if-is_ne.true)

pub order::compare_fields-returns-then-is_ne-2 : goal.order::compare_fields-returns-then-is_ne-2
order::compare_fields-returns-then-is_ne-2 t c = fields_differ c.args.fields.now c.args.others.now c.loop-i.i c.index-fields-i.result c.index-others-i.result c.index-fields-i-in-loop-i.result c.index-others-i-in-loop-i.result c.cmp-names.result c.compare-values.result c.loop-i.invariant (omega arith) (omega arith)
    c.cmp-names.ensures (sym c.is_ne.ensures ∙ c.if-is_ne.false) c.compare-values.ensures (sym c.is_ne-in-loop-i.ensures ∙ c.if-is_ne-2.true)

pub order::compare_fields-loop-i-preserved : goal.order::compare_fields-loop-i-preserved
order::compare_fields-loop-i-preserved t c = fields_on c.args.fields.now c.args.others.now c.loop-i.i c.index-fields-i.result c.index-others-i.result c.index-fields-i-in-loop-i.result c.index-others-i-in-loop-i.result c.cmp-names.result c.compare-values.result c.loop-i.invariant (omega arith) (omega arith)
    c.cmp-names.ensures (sym c.is_ne.ensures ∙ c.if-is_ne.false) c.compare-values.ensures (sym c.is_ne-in-loop-i.ensures ∙ c.if-is_ne-2.false)
