use Rattle.std.proofs.Common.{arith}
use Rattle.std.proofs.lemmas.Result.{err_from_is_err_and}
use Rattle.record_parts.proofs.Wide.{fails_always}
use Rattle.record_parts.proofs.WriteForms.{write_tagged, write_other}
use Rattle.record_parts.proofs.Combine.{no_tag, other_tag}
use Rattle.record_parts.proofs.writes.write_of.Goals as goal

pub returns-in_err-byte : goal.returns-in_err-byte
returns-in_err-byte c =
    let p = err_from_is_err_and c.from_residual.result c.from_residual.ensures.1 in
    rw p.1 (fails_always p.0 (no_tag write_tagged c.args.bytes.now c.in_err-byte.ensures))

pub returns-in-1 : goal.returns-in-1
returns-in-1 c = rw (c.in_ok-byte.ensures, c.in-1.is) c.update_of.ensures

pub returns-in-2 : goal.returns-in-2
returns-in-2 c = rw (c.in_ok-byte.ensures, c.in-2.is) c.delete_of.ensures

pub returns-in_default : goal.returns-in_default
returns-in_default c = other_tag write_tagged c.args.bytes.now c.in_ok-byte.byte c.in_ok-byte.rest.now c.in_ok-byte.ensures (write_other c.in_ok-byte.byte (λ e. absurd (omega (arith, e))) (λ e. absurd (omega (arith, e))))
