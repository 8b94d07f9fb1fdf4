use Rattle.std.proofs.Common.{[], ◌∷◌}
use Rattle.std.proofs.lemmas.Result.{err_from_is_err_and}
use Rattle.record_parts.proofs.Wide.{fails_also}
use Rattle.record_parts.proofs.Combine.{both, kind_none, kind_read, no_first, no_second, pair_read}
use Rattle.record_parts.proofs.Basics.{moment}
use Rattle.outcome_codec.proofs.OutcomeForms.{entries_form, rows_form}
use Rattle.record_codec.proofs.CommitForms.{point_kind, point_of_parts, point_parts}
use Rattle.record_codec.proofs.commits.point_of.Goals as goal

pub returns-in_err-at : goal.returns-in_err-at
returns-in_err-at c =
    let p = err_from_is_err_and c.from_residual.result c.from_residual.ensures.1 in
    rw (p.1, p.2) (fails_also c.in_err-at.field-0.0 (λ none. kind_none (5 ∷ []) point_of_parts point_parts point_kind c.args.bytes.now (no_first moment (λ _. (both entries_form rows_form)) c.args.bytes.now none)) c.in_err-at.ensures)

pub returns-in_err-entries : goal.returns-in_err-entries
returns-in_err-entries c =
    let p = err_from_is_err_and c.from_residual-in_err-entries.result c.from_residual-in_err-entries.ensures.1 in
    rw (p.1, p.2) (fails_also c.in_err-entries.field-0.0 (λ none. kind_none (5 ∷ []) point_of_parts point_parts point_kind c.args.bytes.now (no_second moment (λ _. (both entries_form rows_form)) c.args.bytes.now c.in_ok-at.at c.in_ok-at.rest.now c.in_ok-at.ensures (no_first entries_form (λ _. rows_form) c.in_ok-at.rest.now none))) c.in_err-entries.ensures)

pub returns-in_err-rows : goal.returns-in_err-rows
returns-in_err-rows c =
    let p = err_from_is_err_and c.from_residual-in_err-rows.result c.from_residual-in_err-rows.ensures.1 in
    rw (p.1, p.2) (fails_also c.in_err-rows.field-0.0 (λ none. kind_none (5 ∷ []) point_of_parts point_parts point_kind c.args.bytes.now (no_second moment (λ _. (both entries_form rows_form)) c.args.bytes.now c.in_ok-at.at c.in_ok-at.rest.now c.in_ok-at.ensures (no_second entries_form (λ _. rows_form) c.in_ok-at.rest.now c.in_ok-entries.entries.items c.in_ok-entries.rest.now c.in_ok-entries.ensures (none)))) c.in_err-rows.ensures)

pub returns : goal.returns
returns c = rw (c.from_vec-entries.ensures, c.from_vec-rows.ensures) (kind_read (5 ∷ []) point_of_parts point_parts point_kind c.args.bytes.now (c.in_ok-at.at, (c.in_ok-entries.entries.items, c.in_ok-rows.rows.items)) c.in_ok-rows.rest.now (pair_read moment (λ _. (both entries_form rows_form)) c.args.bytes.now c.in_ok-at.at c.in_ok-at.rest.now (c.in_ok-entries.entries.items, c.in_ok-rows.rows.items) c.in_ok-rows.rest.now c.in_ok-at.ensures (pair_read entries_form (λ _. rows_form) c.in_ok-at.rest.now c.in_ok-entries.entries.items c.in_ok-entries.rest.now c.in_ok-rows.rows.items c.in_ok-rows.rest.now c.in_ok-entries.ensures (c.in_ok-rows.ensures))))
