use Rattle.std.proofs.Common.{[], ◌∷◌}
use Rattle.std.proofs.lemmas.Result.{err_from_is_err_and}
use Rattle.record_parts.proofs.Wide.{fails_also}
use Rattle.record_parts.proofs.Combine.{kind_none, kind_read, no_first, no_second, pair_read}
use Rattle.outcome_codec.proofs.OutcomeForms.{keys_form, ids_form}
use Rattle.record_codec.proofs.CommitForms.{drop_kind, drop_of_parts, drop_parts}
use Rattle.record_codec.proofs.commits.drop_of.Goals as goal

pub returns-in_err-keys : goal.returns-in_err-keys
returns-in_err-keys c =
    let p = err_from_is_err_and c.from_residual.result c.from_residual.ensures.1 in
    rw (p.1, p.2) (fails_also c.in_err-keys.field-0.0 (λ none. kind_none (7 ∷ []) drop_of_parts drop_parts drop_kind c.args.bytes.now (no_first keys_form (λ _. ids_form) c.args.bytes.now none)) c.in_err-keys.ensures)

pub returns-in_err-ids : goal.returns-in_err-ids
returns-in_err-ids c =
    let p = err_from_is_err_and c.from_residual-in_err-ids.result c.from_residual-in_err-ids.ensures.1 in
    rw (p.1, p.2) (fails_also c.in_err-ids.field-0.0 (λ none. kind_none (7 ∷ []) drop_of_parts drop_parts drop_kind c.args.bytes.now (no_second keys_form (λ _. ids_form) c.args.bytes.now c.in_ok-keys.keys c.in_ok-keys.rest.now c.in_ok-keys.ensures (none))) c.in_err-ids.ensures)

pub returns : goal.returns
returns c = rw c.from_vec-ids.ensures (kind_read (7 ∷ []) drop_of_parts drop_parts drop_kind c.args.bytes.now (c.in_ok-keys.keys, c.in_ok-ids.ids.items) c.in_ok-ids.rest.now (pair_read keys_form (λ _. ids_form) c.args.bytes.now c.in_ok-keys.keys c.in_ok-keys.rest.now c.in_ok-ids.ids.items c.in_ok-ids.rest.now c.in_ok-keys.ensures (c.in_ok-ids.ensures)))
