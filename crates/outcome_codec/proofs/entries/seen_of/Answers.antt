use Rattle.std.proofs.Common.{arith}
use Rattle.std.proofs.lemmas.Result.{err_from_is_err_and}
use Rattle.record_parts.proofs.Wide.{fails_also, fails_always}
use Rattle.record_parts.proofs.Combine.{no_tag, other_tag, tag_read, tag_none}
use Rattle.outcome_codec.proofs.OutcomeForms.{seen_tagged, missing_kind, seen_other}
use Rattle.outcome_codec.proofs.entries.seen_of.Goals as goal

pub returns-in_err-byte : goal.returns-in_err-byte
returns-in_err-byte c =
    let p = err_from_is_err_and c.from_residual.result c.from_residual.ensures.1 in
    rw p.1 (fails_always p.0 (no_tag seen_tagged c.args.bytes.now c.in_err-byte.ensures))

pub returns-in-1 : goal.returns-in-1
returns-in-1 c = rw (c.in_ok-byte.ensures, c.in-1.is) c.found_of.ensures

pub returns-in_err-version-in-2 : goal.returns-in_err-version-in-2
returns-in_err-version-in-2 c =
    let p = err_from_is_err_and c.from_residual-in_err-version-in-2.result c.from_residual-in_err-version-in-2.ensures.1 in
    rw (p.1, p.2) (fails_also c.in_err-version-in-2.field-0.0 (tag_none missing_kind c.args.bytes.now c.in_ok-byte.byte c.in_ok-byte.rest.now c.in_ok-byte.ensures c.in-2.is) c.in_err-version-in-2.ensures)

pub returns-in_ok-version-in-2 : goal.returns-in_ok-version-in-2
returns-in_ok-version-in-2 c = tag_read missing_kind c.args.bytes.now c.in_ok-byte.byte c.in_ok-byte.rest.now c.in_ok-byte.ensures c.in-2.is c.in_ok-version-in-2.version c.in_ok-version-in-2.rest.now c.in_ok-version-in-2.ensures

pub returns-in_default : goal.returns-in_default
returns-in_default c = other_tag seen_tagged c.args.bytes.now c.in_ok-byte.byte c.in_ok-byte.rest.now c.in_ok-byte.ensures (seen_other c.in_ok-byte.byte (λ e. absurd (omega (arith, e))) (λ e. absurd (omega (arith, e))))
