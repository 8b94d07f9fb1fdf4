use Rattle.std.proofs.Common.{arith}
use Rattle.std.proofs.lemmas.Result.{err_from_is_err_and}
use Rattle.record_parts.proofs.Wide.{fails_also}
use Rattle.record_parts.proofs.Combine.{no_count, no_item, list_read}
use Rattle.target_codec.proofs.Parts.{order_form}
use Rattle.target_codec.proofs.orders.orders_of.Goals as goal

pub returns-in_err-count : goal.returns-in_err-count
returns-in_err-count c =
    let p = err_from_is_err_and c.from_residual.result c.from_residual.ensures.1 in
    rw (p.1, p.2) (fails_also c.in_err-count.field-0.0 (no_count order_form c.args.bytes.now) c.in_err-count.ensures)

pub returns-in_err-order : goal.returns-in_err-order
returns-in_err-order c =
    let p = err_from_is_err_and c.from_residual-in_err-order.result c.from_residual-in_err-order.ensures.1 in
    rw (p.1, p.2) (fails_also c.in_err-order.field-0.0 (no_item order_form c.args.bytes.now c.in_ok-count.count c.in_ok-count.start.now c.loop.counter c.loop.orders.items c.loop.rest.now c.in_ok-count.ensures c.loop-test.true c.loop.invariant) c.in_err-order.ensures)

pub returns : goal.returns
returns c = rw c.from_vec.ensures (list_read order_form c.args.bytes.now c.in_ok-count.count c.in_ok-count.start.now c.loop.counter c.loop.orders.items c.loop.rest.now c.in_ok-count.ensures (omega (arith, c.loop-test.false)) c.loop.invariant)
