use Rattle.std.proofs.Common.{◌∙◌, ap, sym, arith, option_map}
use Rattle.value_model.specs.Data.{null}
use Rattle.value_model.proofs.RefNames.{differ, same}
use Rattle.queries.specs.Found.{found_data, standing_at}
use Rattle.queries.proofs.Ordered.{values_length, value_of, value_there, rows_differ, rows_go_on, rows_tie}
use Rattle.queries.proofs.rows.compare_to_values.Goals as goal

pub returns-in_default : goal.returns-in_default
returns-in_default c = λ xs has fits.
    let none = sym c.at.ensures ∙ ap (option_map found_data) c.in_default.is in
    let there = value_of (standing_at c.args.candidate.now) c.args.orders.now xs c.loop-i.i c.index-orders-i.result null has (omega arith) c.index-orders-i.is in
    cc (none, there)

pub returns-then-is_ne : goal.returns-then-is_ne
returns-then-is_ne c = λ xs has fits.
    let long = values_length (standing_at c.args.candidate.now) c.args.orders.now xs has in
    let x_is = value_there (standing_at c.args.candidate.now) c.args.orders.now xs c.loop-i.i c.index-orders-i.result (found_data c.in-Some.found) has (omega arith) c.index-orders-i.is (sym c.at.ensures ∙ ap (option_map found_data) c.in-Some.is) in
    rows_differ c.args.orders.now xs c.args.values.now c.loop-i.i c.index-orders-i.result (found_data c.in-Some.found) c.index-values-i.result (found_data c.in-Some.found) c.index-values-i.result c.directed-ranked.result
    (omega arith) (omega arith) (omega arith) (c.loop-i.invariant xs has) c.index-orders-i.is x_is c.index-values-i.is (c.directed-ranked.ensures _ _ c.compare.ensures) (differ _ (sym c.is_ne.ensures ∙ c.if-is_ne.true))

pub loop-i-preserved : goal.loop-i-preserved
loop-i-preserved c = λ xs has.
    let long = values_length (standing_at c.args.candidate.now) c.args.orders.now xs has in
    let x_is = value_there (standing_at c.args.candidate.now) c.args.orders.now xs c.loop-i.i c.index-orders-i.result (found_data c.in-Some.found) has (omega arith) c.index-orders-i.is (sym c.at.ensures ∙ ap (option_map found_data) c.in-Some.is) in
    let tie = (c.directed-ranked.ensures _ _ c.compare.ensures).equal.0 (same _ (sym c.is_ne.ensures ∙ c.if-is_ne.false)) in
    rows_go_on xs c.args.values.now c.loop-i.i (found_data c.in-Some.found) c.index-values-i.result (found_data c.in-Some.found) c.index-values-i.result (omega arith) (omega arith) (c.loop-i.invariant xs has) x_is c.index-values-i.is tie

pub returns : goal.returns
returns c = λ xs has fits. rows_tie c.args.orders.now xs c.args.values.now c.loop-i.i (omega arith) (c.loop-i.invariant xs has)
