use Rattle.std.proofs.Common.{[], ◌∷◌}
use Rattle.std.proofs.lemmas.Result.{err_from_is_err_and}
use Rattle.record_parts.proofs.Wide.{fails_also}
use Rattle.record_parts.proofs.Combine.{kind_none, kind_read}
use Rattle.record_parts.proofs.Basics.{word}
use Rattle.record_codec.specs.declared.commit.Commit.TheVariants.{Reject}
use Rattle.record_codec.proofs.CommitForms.{reject_kind}
use Rattle.record_codec.proofs.commits.reject_of.Goals as goal

pub returns-in_err-batch : goal.returns-in_err-batch
returns-in_err-batch c =
    let p = err_from_is_err_and c.from_residual.result c.from_residual.ensures.1 in
    rw (p.1, p.2) (fails_also c.in_err-batch.field-0.0 (λ none. kind_none (3 ∷ []) Reject word reject_kind c.args.bytes.now (none)) c.in_err-batch.ensures)

pub returns : goal.returns
returns c = kind_read (3 ∷ []) Reject word reject_kind c.args.bytes.now c.in_ok-batch.batch c.in_ok-batch.rest.now (c.in_ok-batch.ensures)
