use Rattle.std.proofs.Common.{◌∙◌, ap, sym, refl, arith, option_map}
use Rattle.value_model.specs.Data.{null}
use Rattle.document_keys.proofs.Fields.{walk_more, walk_whole}
use Rattle.queries.specs.Found.{found_data, standing_at}
use Rattle.queries.proofs.Ordered.{IsThere, all_there, value_of}
use Rattle.queries.proofs.rows.has_values.Goals as goal

pub returns-in_default : goal.returns-in_default
returns-in_default c =
    let none = sym c.at.ensures ∙ ap (option_map found_data) c.in_default.is in
    (λ no. cc, λ some. let there = value_of (standing_at c.args.candidate.now) c.args.orders.now some.0 c.loop-order.order-index c.order-item.result null some.1 c.loop-order-test.true c.order-item.is in cc (none, there))

pub loop-order-preserved : goal.loop-order-preserved
loop-order-preserved c =
    walk_more (IsThere (standing_at c.args.candidate.now)) _ _ _ (omega arith) c.order-item.is c.loop-order.invariant (_, sym c.at.ensures ∙ ap (option_map found_data) c.in-Some.is)

pub returns : goal.returns
returns c = (λ yes. all_there (standing_at c.args.candidate.now) _ (walk_whole (IsThere (standing_at c.args.candidate.now)) _ _ (omega arith) c.loop-order.invariant), λ some. refl)
