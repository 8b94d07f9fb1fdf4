use Rattle.std.proofs.Common.{[], ◌∷◌}
use Rattle.std.proofs.lemmas.Result.{err_from_is_err_and}
use Rattle.record_parts.proofs.Wide.{fails_also}
use Rattle.record_parts.proofs.Combine.{kind_none, kind_read, no_first, no_second, pair_read}
use Rattle.record_parts.proofs.Basics.{half}
use Rattle.target_codec.proofs.FilterForms.{target_form}
use Rattle.record_codec.proofs.CommitForms.{allocate_kind, allocate_of_parts, allocate_parts}
use Rattle.record_codec.proofs.commits.allocate_of.Goals as goal

pub returns-in_err-id : goal.returns-in_err-id
returns-in_err-id c =
    let p = err_from_is_err_and c.from_residual.result c.from_residual.ensures.1 in
    rw (p.1, p.2) (fails_also c.in_err-id.field-0.0 (λ none. kind_none (4 ∷ []) allocate_of_parts allocate_parts allocate_kind c.args.bytes.now (no_first half (λ _. target_form) c.args.bytes.now none)) c.in_err-id.ensures)

pub returns-in_err-target : goal.returns-in_err-target
returns-in_err-target c =
    let p = err_from_is_err_and c.from_residual-in_err-target.result c.from_residual-in_err-target.ensures.1 in
    rw (p.1, p.2) (fails_also c.in_err-target.field-0.0 (λ none. kind_none (4 ∷ []) allocate_of_parts allocate_parts allocate_kind c.args.bytes.now (no_second half (λ _. target_form) c.args.bytes.now c.in_ok-id.id c.in_ok-id.rest.now c.in_ok-id.ensures (none))) c.in_err-target.ensures)

pub returns : goal.returns
returns c = kind_read (4 ∷ []) allocate_of_parts allocate_parts allocate_kind c.args.bytes.now (c.in_ok-id.id, c.in_ok-target.target) c.in_ok-target.rest.now (pair_read half (λ _. target_form) c.args.bytes.now c.in_ok-id.id c.in_ok-id.rest.now c.in_ok-target.target c.in_ok-target.rest.now c.in_ok-id.ensures (c.in_ok-target.ensures))
