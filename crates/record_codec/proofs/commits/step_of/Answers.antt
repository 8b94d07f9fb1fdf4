use Rattle.std.proofs.Common.{arith}
use Rattle.std.proofs.lemmas.Result.{err_from_is_err_and}
use Rattle.record_parts.proofs.Wide.{fails_always}
use Rattle.record_parts.proofs.Combine.{no_tag, other_tag}
use Rattle.record_codec.proofs.CommitForms.{step_tagged, step_other}
use Rattle.record_codec.proofs.commits.step_of.Goals as goal

pub returns-in_err-byte : goal.returns-in_err-byte
returns-in_err-byte c =
    let p = err_from_is_err_and c.from_residual.result c.from_residual.ensures.1 in
    rw p.1 (fails_always p.0 (no_tag step_tagged c.args.bytes.now c.in_err-byte.ensures))

pub returns-in-1 : goal.returns-in-1
returns-in-1 c = rw (c.in_ok-byte.ensures, c.in-1.is) c.enqueue_of.ensures

pub returns-in-2 : goal.returns-in-2
returns-in-2 c = rw (c.in_ok-byte.ensures, c.in-2.is) c.acknowledge_of.ensures

pub returns-in-3 : goal.returns-in-3
returns-in-3 c = rw (c.in_ok-byte.ensures, c.in-3.is) c.reject_of.ensures

pub returns-in-4 : goal.returns-in-4
returns-in-4 c = rw (c.in_ok-byte.ensures, c.in-4.is) c.allocate_of.ensures

pub returns-in-5 : goal.returns-in-5
returns-in-5 c = rw (c.in_ok-byte.ensures, c.in-5.is) c.point_of.ensures

pub returns-in-6 : goal.returns-in-6
returns-in-6 c = rw (c.in_ok-byte.ensures, c.in-6.is) c.reset_of.ensures

pub returns-in-7 : goal.returns-in-7
returns-in-7 c = rw (c.in_ok-byte.ensures, c.in-7.is) c.drop_of.ensures

pub returns-in_default : goal.returns-in_default
returns-in_default c = other_tag step_tagged c.args.bytes.now c.in_ok-byte.byte c.in_ok-byte.rest.now c.in_ok-byte.ensures (step_other c.in_ok-byte.byte (λ least most. omega (arith, least, most)))
