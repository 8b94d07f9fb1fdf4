use Rattle.std.proofs.Common.{arith}
use Rattle.std.proofs.lemmas.Result.{err_from_is_err_and}
use Rattle.record_parts.proofs.Wide.{fails_also, fails_always}
use Rattle.record_parts.proofs.WriteForms.{precondition_tagged, free_kind, exists_kind, update_time_kind, precondition_other}
use Rattle.record_parts.proofs.Combine.{no_tag, other_tag, tag_read, tag_none, nothing}
use Rattle.record_parts.proofs.writes.precondition_of.Goals as goal

pub returns-in_err-byte : goal.returns-in_err-byte
returns-in_err-byte c =
    let p = err_from_is_err_and c.from_residual.result c.from_residual.ensures.1 in
    rw p.1 (fails_always p.0 (no_tag precondition_tagged c.args.bytes.now c.in_err-byte.ensures))

pub returns-in_err-there-in-1 : goal.returns-in_err-there-in-1
returns-in_err-there-in-1 c =
    let p = err_from_is_err_and c.from_residual-in_err-there-in-1.result c.from_residual-in_err-there-in-1.ensures.1 in
    rw (p.1, p.2) (fails_also c.in_err-there-in-1.field-0.0 (tag_none exists_kind c.args.bytes.now c.in_ok-byte.byte c.in_ok-byte.rest.now c.in_ok-byte.ensures c.in-1.is) c.in_err-there-in-1.ensures)

pub returns-in_err-time-in-2 : goal.returns-in_err-time-in-2
returns-in_err-time-in-2 c =
    let p = err_from_is_err_and c.from_residual-in_err-time-in-2.result c.from_residual-in_err-time-in-2.ensures.1 in
    rw (p.1, p.2) (fails_also c.in_err-time-in-2.field-0.0 (tag_none update_time_kind c.args.bytes.now c.in_ok-byte.byte c.in_ok-byte.rest.now c.in_ok-byte.ensures c.in-2.is) c.in_err-time-in-2.ensures)

pub returns-in-0 : goal.returns-in-0
returns-in-0 c = tag_read free_kind c.args.bytes.now c.in_ok-byte.byte c.in_ok-byte.rest.now c.in_ok-byte.ensures c.in-0.is tt c.in_ok-byte.rest.now (nothing c.in_ok-byte.rest.now)

pub returns-in_ok-there-in-1 : goal.returns-in_ok-there-in-1
returns-in_ok-there-in-1 c = tag_read exists_kind c.args.bytes.now c.in_ok-byte.byte c.in_ok-byte.rest.now c.in_ok-byte.ensures c.in-1.is c.in_ok-there-in-1.there c.in_ok-there-in-1.rest.now c.in_ok-there-in-1.ensures

pub returns-in_ok-time-in-2 : goal.returns-in_ok-time-in-2
returns-in_ok-time-in-2 c = tag_read update_time_kind c.args.bytes.now c.in_ok-byte.byte c.in_ok-byte.rest.now c.in_ok-byte.ensures c.in-2.is c.in_ok-time-in-2.time c.in_ok-time-in-2.rest.now c.in_ok-time-in-2.ensures

pub returns-in_default : goal.returns-in_default
returns-in_default c = other_tag precondition_tagged c.args.bytes.now c.in_ok-byte.byte c.in_ok-byte.rest.now c.in_ok-byte.ensures (precondition_other c.in_ok-byte.byte (λ e. absurd (omega (arith, e))) (λ e. absurd (omega (arith, e))) (λ e. absurd (omega (arith, e))))
