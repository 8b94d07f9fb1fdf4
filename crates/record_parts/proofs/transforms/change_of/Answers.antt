use Rattle.std.proofs.Common.{arith}
use Rattle.std.specs.Int.{w64}
use Rattle.std.proofs.lemmas.Int.{to_z-of_z}
use Rattle.std.proofs.lemmas.Result.{err_from_is_err_and}
use Rattle.record_parts.proofs.Wide.{fails_also, fails_always}
use Rattle.record_parts.proofs.WriteForms.{change_tagged, server_kind, increment_kind, maximum_kind, minimum_kind, append_kind, remove_kind, change_other}
use Rattle.record_parts.proofs.Combine.{no_tag, other_tag, tag_read, tag_none, nothing}
use Rattle.record_parts.proofs.transforms.change_of.Goals as goal

pub returns-in_err-byte : goal.returns-in_err-byte
returns-in_err-byte c =
    let p = err_from_is_err_and c.from_residual.result c.from_residual.ensures.1 in
    rw p.1 (fails_always p.0 (no_tag change_tagged c.args.bytes.now c.in_err-byte.ensures))

pub returns-in_err-by-in-2 : goal.returns-in_err-by-in-2
returns-in_err-by-in-2 c =
    let p = err_from_is_err_and c.from_residual-in_err-by-in-2.result c.from_residual-in_err-by-in-2.ensures.1 in
    rw (p.1, p.2) (fails_also c.in_err-by-in-2.field-0.0 (tag_none (increment_kind c.args.names) c.args.bytes.now c.in_ok-byte.byte c.in_ok-byte.rest.now c.in_ok-byte.ensures c.in-2.is) c.in_err-by-in-2.ensures)

pub returns-in_err-with-in-3 : goal.returns-in_err-with-in-3
returns-in_err-with-in-3 c =
    let p = err_from_is_err_and c.from_residual-in_err-with-in-3.result c.from_residual-in_err-with-in-3.ensures.1 in
    rw (p.1, p.2) (fails_also c.in_err-with-in-3.field-0.0 (tag_none (maximum_kind c.args.names) c.args.bytes.now c.in_ok-byte.byte c.in_ok-byte.rest.now c.in_ok-byte.ensures c.in-3.is) c.in_err-with-in-3.ensures)

pub returns-in_err-with-in-4 : goal.returns-in_err-with-in-4
returns-in_err-with-in-4 c =
    let p = err_from_is_err_and c.from_residual-in_err-with-in-4.result c.from_residual-in_err-with-in-4.ensures.1 in
    rw (p.1, p.2) (fails_also c.in_err-with-in-4.field-0.0 (tag_none (minimum_kind c.args.names) c.args.bytes.now c.in_ok-byte.byte c.in_ok-byte.rest.now c.in_ok-byte.ensures c.in-4.is) c.in_err-with-in-4.ensures)

pub returns-in_err-values-in-5 : goal.returns-in_err-values-in-5
returns-in_err-values-in-5 c =
    let p = err_from_is_err_and c.from_residual-in_err-values-in-5.result c.from_residual-in_err-values-in-5.ensures.1 in
    rw (p.1, p.2) (fails_also c.in_err-values-in-5.field-0.0 (tag_none (append_kind c.args.names) c.args.bytes.now c.in_ok-byte.byte c.in_ok-byte.rest.now c.in_ok-byte.ensures c.in-5.is) c.in_err-values-in-5.ensures)

pub returns-in_err-values-in-6 : goal.returns-in_err-values-in-6
returns-in_err-values-in-6 c =
    let p = err_from_is_err_and c.from_residual-in_err-values-in-6.result c.from_residual-in_err-values-in-6.ensures.1 in
    rw (p.1, p.2) (fails_also c.in_err-values-in-6.field-0.0 (tag_none (remove_kind c.args.names) c.args.bytes.now c.in_ok-byte.byte c.in_ok-byte.rest.now c.in_ok-byte.ensures c.in-6.is) c.in_err-values-in-6.ensures)

pub returns-in-1 : goal.returns-in-1
returns-in-1 c = tag_read (server_kind c.args.names) c.args.bytes.now c.in_ok-byte.byte c.in_ok-byte.rest.now c.in_ok-byte.ensures c.in-1.is tt c.in_ok-byte.rest.now (nothing c.in_ok-byte.rest.now)

pub returns-in_ok-by-in-2 : goal.returns-in_ok-by-in-2
returns-in_ok-by-in-2 c = rw (to_z-of_z w64 c.in_ok-by-in-2.by c.in_ok-by-in-2.ensures.fits) (tag_read (increment_kind c.args.names) c.args.bytes.now c.in_ok-byte.byte c.in_ok-byte.rest.now c.in_ok-byte.ensures c.in-2.is c.in_ok-by-in-2.by c.in_ok-by-in-2.rest.now c.in_ok-by-in-2.ensures)

pub returns-in_ok-with-in-3 : goal.returns-in_ok-with-in-3
returns-in_ok-with-in-3 c = rw (to_z-of_z w64 c.in_ok-with-in-3.with c.in_ok-with-in-3.ensures.fits) (tag_read (maximum_kind c.args.names) c.args.bytes.now c.in_ok-byte.byte c.in_ok-byte.rest.now c.in_ok-byte.ensures c.in-3.is c.in_ok-with-in-3.with c.in_ok-with-in-3.rest.now c.in_ok-with-in-3.ensures)

pub returns-in_ok-with-in-4 : goal.returns-in_ok-with-in-4
returns-in_ok-with-in-4 c = rw (to_z-of_z w64 c.in_ok-with-in-4.with c.in_ok-with-in-4.ensures.fits) (tag_read (minimum_kind c.args.names) c.args.bytes.now c.in_ok-byte.byte c.in_ok-byte.rest.now c.in_ok-byte.ensures c.in-4.is c.in_ok-with-in-4.with c.in_ok-with-in-4.rest.now c.in_ok-with-in-4.ensures)

pub returns-in_ok-values-in-5 : goal.returns-in_ok-values-in-5
returns-in_ok-values-in-5 c = tag_read (append_kind c.args.names) c.args.bytes.now c.in_ok-byte.byte c.in_ok-byte.rest.now c.in_ok-byte.ensures c.in-5.is c.in_ok-values-in-5.values c.in_ok-values-in-5.rest.now c.in_ok-values-in-5.ensures

pub returns-in_ok-values-in-6 : goal.returns-in_ok-values-in-6
returns-in_ok-values-in-6 c = tag_read (remove_kind c.args.names) c.args.bytes.now c.in_ok-byte.byte c.in_ok-byte.rest.now c.in_ok-byte.ensures c.in-6.is c.in_ok-values-in-6.values c.in_ok-values-in-6.rest.now c.in_ok-values-in-6.ensures

pub returns-in_default : goal.returns-in_default
returns-in_default c = other_tag change_tagged c.args.bytes.now c.in_ok-byte.byte c.in_ok-byte.rest.now c.in_ok-byte.ensures (change_other c.args.names c.in_ok-byte.byte (λ e. absurd (omega (arith, e))) (λ e. absurd (omega (arith, e))) (λ e. absurd (omega (arith, e))) (λ e. absurd (omega (arith, e))) (λ e. absurd (omega (arith, e))) (λ e. absurd (omega (arith, e))))
