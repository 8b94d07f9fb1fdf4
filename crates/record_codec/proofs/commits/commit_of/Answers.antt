use Rattle.std.proofs.lemmas.Result.{err_from_is_err_and}
use Rattle.record_parts.proofs.Wide.{fails_always}
use Rattle.record_codec.proofs.CommitForms.{format_kind, format_made}
use Rattle.record_parts.proofs.Combine.{no_kind, same_reads}
use Rattle.record_codec.proofs.commits.commit_of.Goals as goal

pub returns-in_err-rest : goal.returns-in_err-rest
returns-in_err-rest c =
    let p = err_from_is_err_and c.from_residual.result c.from_residual.ensures.1 in
    rw p.1 (fails_always p.0 (no_kind format_kind format_made c.args.bytes.now c.in_err-rest.ensures))

pub returns : goal.returns
returns c = rw c.in_ok-rest.ensures (same_reads format_kind c.in_ok-rest.rest.now (λ x. (x.0, x.1.now)) c.step_of.result c.step_of.ensures)
