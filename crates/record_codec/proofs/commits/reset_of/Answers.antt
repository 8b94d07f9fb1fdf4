use Rattle.std.proofs.Common.{[], ◌∷◌}
use Rattle.std.proofs.lemmas.Result.{err_from_is_err_and}
use Rattle.record_parts.proofs.Wide.{fails_also}
use Rattle.record_parts.proofs.Combine.{kind_none, kind_read}
use Rattle.outcome_codec.proofs.OutcomeForms.{ids_form}
use Rattle.record_codec.specs.declared.commit.Commit.TheVariants.{Reset}
use Rattle.record_codec.proofs.CommitForms.{reset_kind}
use Rattle.record_codec.proofs.commits.reset_of.Goals as goal

pub returns-in_err-ids : goal.returns-in_err-ids
returns-in_err-ids c =
    let p = err_from_is_err_and c.from_residual.result c.from_residual.ensures.1 in
    rw (p.1, p.2) (fails_also c.in_err-ids.field-0.0 (λ none. kind_none (6 ∷ []) Reset ids_form reset_kind c.args.bytes.now (none)) c.in_err-ids.ensures)

pub returns : goal.returns
returns c = rw c.from_vec-ids.ensures (kind_read (6 ∷ []) Reset ids_form reset_kind c.args.bytes.now c.in_ok-ids.ids.items c.in_ok-ids.rest.now (c.in_ok-ids.ensures))
