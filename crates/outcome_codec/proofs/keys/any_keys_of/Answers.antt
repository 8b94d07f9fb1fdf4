use Rattle.std.proofs.Common.{arith}
use Rattle.std.proofs.lemmas.Result.{err_from_is_err_and}
use Rattle.record_parts.proofs.Wide.{fails_also}
use Rattle.record_parts.proofs.Combine.{no_count, no_item, list_read}
use Rattle.record_parts.proofs.Basics.{document_key}
use Rattle.outcome_codec.proofs.keys.any_keys_of.Goals as goal

pub returns-in_err-count : goal.returns-in_err-count
returns-in_err-count c =
    let p = err_from_is_err_and c.from_residual.result c.from_residual.ensures.1 in
    rw (p.1, p.2) (fails_also c.in_err-count.field-0.0 (no_count document_key c.args.bytes.now) c.in_err-count.ensures)

pub returns-in_err-key : goal.returns-in_err-key
returns-in_err-key c =
    let p = err_from_is_err_and c.from_residual-in_err-key.result c.from_residual-in_err-key.ensures.1 in
    rw (p.1, p.2) (fails_also c.in_err-key.field-0.0 (no_item document_key c.args.bytes.now c.in_ok-count.count c.in_ok-count.start.now c.loop.counter c.loop.keys.items c.loop.rest.now c.in_ok-count.ensures c.loop-test.true c.loop.invariant) c.in_err-key.ensures)

pub returns : goal.returns
returns c = list_read document_key c.args.bytes.now c.in_ok-count.count c.in_ok-count.start.now c.loop.counter c.loop.keys.items c.loop.rest.now c.in_ok-count.ensures (omega (arith, c.loop-test.false)) c.loop.invariant
