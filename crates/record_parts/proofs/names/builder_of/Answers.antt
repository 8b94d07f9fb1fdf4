use Rattle.std.proofs.lemmas.Result.{err_from_is_err_and}
use Rattle.std.proofs.Common.{arith}
use Rattle.record_parts.proofs.Wide.{fails_also}
use Rattle.record_parts.proofs.Basics.{segment}
use Rattle.record_parts.proofs.Combine.{no_count, no_item, list_read}
use Rattle.record_parts.proofs.names.builder_of.Goals as goal

pub returns-in_err-count : goal.returns-in_err-count
returns-in_err-count c =
    let p = err_from_is_err_and c.from_residual.result c.from_residual.ensures.1 in
    rw (p.1, p.2) (fails_also c.in_err-count.field-0.0 (no_count segment c.args.bytes.now) c.in_err-count.ensures)

pub returns-in_err-longer : goal.returns-in_err-longer
returns-in_err-longer c =
    let p = err_from_is_err_and c.from_residual-in_err-longer.result c.from_residual-in_err-longer.ensures.1 in
    rw (p.1, p.2) (fails_also c.in_err-longer.field-0.0 (no_item segment c.args.bytes.now c.in_ok-count.count c.in_ok-count.start.now c.loop.counter c.loop.builder c.loop.rest.now c.in_ok-count.ensures c.loop-test.true c.loop.invariant) c.in_err-longer.ensures.none)

pub returns : goal.returns
returns c = list_read segment c.args.bytes.now c.in_ok-count.count c.in_ok-count.start.now c.loop.counter c.loop.builder c.loop.rest.now c.in_ok-count.ensures (omega (arith, c.loop-test.false)) c.loop.invariant
