use Rattle.value_model.proofs.Depths.{values_on, values_out, fields_on, fields_out}
use Rattle.value_model.proofs.+nesting.Goals as goal

pub nesting::values_nest_within-returns-then-not-nests_within : goal.nesting::values_nest_within-returns-then-not-nests_within
nesting::values_nest_within-returns-then-not-nests_within t c = (
  λ given. cc,
  λ all.
      let deep = c.nests_within.ensures.1 (values_out c.args.values.now c.loop-value.value-index c.value-item.result c.args.limit c.loop-value-test.true c.value-item.is all) in
      let no = c.if-not-nests_within.true in
      cc,
)

pub nesting::values_nest_within-loop-value-preserved : goal.nesting::values_nest_within-loop-value-preserved
nesting::values_nest_within-loop-value-preserved t c =
    values_on c.args.values.now c.loop-value.value-index c.value-item.result c.args.limit c.loop-value-test.true c.value-item.is (c.nests_within.ensures.0 c.if-not-nests_within.false) c.loop-value.invariant

pub nesting::fields_nest_within-returns-then-not-nests_within : goal.nesting::fields_nest_within-returns-then-not-nests_within
nesting::fields_nest_within-returns-then-not-nests_within t c = (
  λ given. cc,
  λ all.
      let deep = c.nests_within.ensures.1 (fields_out c.args.fields.now c.loop-field.field-index c.field-item.result c.args.limit c.loop-field-test.true c.field-item.is all) in
      let no = c.if-not-nests_within.true in
      cc,
)

pub nesting::fields_nest_within-loop-field-preserved : goal.nesting::fields_nest_within-loop-field-preserved
nesting::fields_nest_within-loop-field-preserved t c =
    fields_on c.args.fields.now c.loop-field.field-index c.field-item.result c.args.limit c.loop-field-test.true c.field-item.is (c.nests_within.ensures.0 c.if-not-nests_within.false) c.loop-field.invariant
