use Rattle.std.proofs.Common.{◌∙◌, sym, arith}
use Rattle.value_model.specs.Data.{null}
use Rattle.value_model.proofs.RefNames.{differ, same}
use Rattle.queries.specs.Holding.{standing}
use Rattle.queries.specs.Rows.{row_values}
use Rattle.queries.proofs.Ordered.{row_values_length, row_value_of, rows_differ, rows_go_on, rows_tie}
use Rattle.queries.proofs.rows.compare_rows.Goals as goal

pub returns-then-is_ne : goal.returns-then-is_ne
returns-then-is_ne c = λ root.
    let at = standing root c.args.left.key.now c.args.left.fields.now in
    let other = standing root c.args.right.key.now c.args.right.fields.now in
    let long = row_values_length at c.args.orders.now in
    let as_long = row_values_length other c.args.orders.now in
    let x_is = row_value_of at c.args.orders.now c.loop-order.order-index c.order-item.result null (omega arith) c.order-item.is in
    let y_is = row_value_of other c.args.orders.now c.loop-order.order-index c.order-item.result null (omega arith) c.order-item.is in
    rows_differ c.args.orders.now (row_values at c.args.orders.now) (row_values other c.args.orders.now) c.loop-order.order-index c.order-item.result null null _ _ c.directed-ranked.result
    (omega arith) (omega arith) (omega arith) (c.loop-order.invariant root) c.order-item.is x_is y_is (c.directed-ranked.ensures _ _ (c.compare_at.ensures root)) (differ _ (sym c.is_ne.ensures ∙ c.if-is_ne.true))

pub loop-order-preserved : goal.loop-order-preserved
loop-order-preserved c = λ root.
    let at = standing root c.args.left.key.now c.args.left.fields.now in
    let other = standing root c.args.right.key.now c.args.right.fields.now in
    let long = row_values_length at c.args.orders.now in
    let as_long = row_values_length other c.args.orders.now in
    let x_is = row_value_of at c.args.orders.now c.loop-order.order-index c.order-item.result null (omega arith) c.order-item.is in
    let y_is = row_value_of other c.args.orders.now c.loop-order.order-index c.order-item.result null (omega arith) c.order-item.is in
    let tie = (c.directed-ranked.ensures _ _ (c.compare_at.ensures root)).equal.0 (same _ (sym c.is_ne.ensures ∙ c.if-is_ne.false)) in
    rows_go_on (row_values at c.args.orders.now) (row_values other c.args.orders.now) c.loop-order.order-index null null _ _ (omega arith) (omega arith) (c.loop-order.invariant root) x_is y_is tie

pub returns : goal.returns
returns c = λ root.
    let as_long = row_values_length (standing root c.args.right.key.now c.args.right.fields.now) c.args.orders.now in
    rows_tie c.args.orders.now _ _ c.loop-order.order-index (omega arith) (c.loop-order.invariant root)
