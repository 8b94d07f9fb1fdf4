use Rattle.std.proofs.Common.{[]}
use Rattle.std.proofs.lemmas.Result.{err_from_is_err_and}
use Rattle.record_parts.proofs.Wide.{fails_also}
use Rattle.record_parts.proofs.Combine.{both, kind_none, kind_read, no_first, no_second, pair_read}
use Rattle.record_parts.proofs.Basics.{plain_bytes}
use Rattle.outcome_codec.proofs.OutcomeForms.{id_form, keys_form, row_kind, row_of_parts, row_parts}
use Rattle.outcome_codec.proofs.rows.row_of.Goals as goal

pub returns-in_err-id : goal.returns-in_err-id
returns-in_err-id c =
    let p = err_from_is_err_and c.from_residual.result c.from_residual.ensures.1 in
    rw (p.1, p.2) (fails_also c.in_err-id.field-0.0 (λ none. kind_none ([]) row_of_parts row_parts row_kind c.args.bytes.now (no_first id_form (λ _. (both plain_bytes keys_form)) c.args.bytes.now none)) c.in_err-id.ensures)

pub returns-in_err-token : goal.returns-in_err-token
returns-in_err-token c =
    let p = err_from_is_err_and c.from_residual-in_err-token.result c.from_residual-in_err-token.ensures.1 in
    rw (p.1, p.2) (fails_also c.in_err-token.field-0.0 (λ none. kind_none ([]) row_of_parts row_parts row_kind c.args.bytes.now (no_second id_form (λ _. (both plain_bytes keys_form)) c.args.bytes.now c.in_ok-id.id c.in_ok-id.rest.now c.in_ok-id.ensures (no_first plain_bytes (λ _. keys_form) c.in_ok-id.rest.now none))) c.in_err-token.ensures)

pub returns-in_err-keys : goal.returns-in_err-keys
returns-in_err-keys c =
    let p = err_from_is_err_and c.from_residual-in_err-keys.result c.from_residual-in_err-keys.ensures.1 in
    rw (p.1, p.2) (fails_also c.in_err-keys.field-0.0 (λ none. kind_none ([]) row_of_parts row_parts row_kind c.args.bytes.now (no_second id_form (λ _. (both plain_bytes keys_form)) c.args.bytes.now c.in_ok-id.id c.in_ok-id.rest.now c.in_ok-id.ensures (no_second plain_bytes (λ _. keys_form) c.in_ok-id.rest.now c.in_ok-token.token c.in_ok-token.rest.now c.in_ok-token.ensures (none)))) c.in_err-keys.ensures)

pub returns : goal.returns
returns c = kind_read ([]) row_of_parts row_parts row_kind c.args.bytes.now (c.in_ok-id.id, (c.in_ok-token.token, c.in_ok-keys.keys)) c.in_ok-keys.rest.now (pair_read id_form (λ _. (both plain_bytes keys_form)) c.args.bytes.now c.in_ok-id.id c.in_ok-id.rest.now (c.in_ok-token.token, c.in_ok-keys.keys) c.in_ok-keys.rest.now c.in_ok-id.ensures (pair_read plain_bytes (λ _. keys_form) c.in_ok-id.rest.now c.in_ok-token.token c.in_ok-token.rest.now c.in_ok-keys.keys c.in_ok-keys.rest.now c.in_ok-token.ensures (c.in_ok-keys.ensures)))
