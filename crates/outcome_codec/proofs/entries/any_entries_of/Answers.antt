use Rattle.std.proofs.Common.{arith}
use Rattle.std.proofs.lemmas.Result.{err_from_is_err_and}
use Rattle.record_parts.proofs.Wide.{fails_also}
use Rattle.record_parts.proofs.Combine.{no_count, no_item, list_read}
use Rattle.outcome_codec.proofs.OutcomeForms.{keyed_form}
use Rattle.outcome_codec.proofs.entries.any_entries_of.Goals as goal

pub returns-in_err-count : goal.returns-in_err-count
returns-in_err-count c =
    let p = err_from_is_err_and c.from_residual.result c.from_residual.ensures.1 in
    rw (p.1, p.2) (fails_also c.in_err-count.field-0.0 (no_count keyed_form c.args.bytes.now) c.in_err-count.ensures)

pub returns-in_err-entry : goal.returns-in_err-entry
returns-in_err-entry c =
    let p = err_from_is_err_and c.from_residual-in_err-entry.result c.from_residual-in_err-entry.ensures.1 in
    rw (p.1, p.2) (fails_also c.in_err-entry.field-0.0 (no_item keyed_form c.args.bytes.now c.in_ok-count.count c.in_ok-count.start.now c.loop.counter c.loop.entries.items c.loop.rest.now c.in_ok-count.ensures c.loop-test.true c.loop.invariant) c.in_err-entry.ensures)

pub returns : goal.returns
returns c = list_read keyed_form c.args.bytes.now c.in_ok-count.count c.in_ok-count.start.now c.loop.counter c.loop.entries.items c.loop.rest.now c.in_ok-count.ensures (omega (arith, c.loop-test.false)) c.loop.invariant
