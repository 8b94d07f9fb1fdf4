use Rattle.std.proofs.Common.{[], ◌∷◌}
use Rattle.std.proofs.lemmas.Result.{err_from_is_err_and}
use Rattle.record_parts.proofs.Wide.{fails_also}
use Rattle.record_parts.proofs.Combine.{kind_none, kind_read, no_first, no_second, pair_read}
use Rattle.record_parts.proofs.Basics.{moment}
use Rattle.record_parts.proofs.Values.{fields_within}
use Rattle.outcome_codec.proofs.OutcomeForms.{found_kind, found_of_parts, found_parts}
use Rattle.outcome_codec.proofs.entries.found_of.Goals as goal

pub returns-in_err-fields : goal.returns-in_err-fields
returns-in_err-fields c =
    let p = err_from_is_err_and c.from_residual.result c.from_residual.ensures.1 in
    rw (p.1, p.2) (fails_also c.in_err-fields.field-0.0 (λ none. kind_none (1 ∷ []) found_of_parts found_parts found_kind c.args.bytes.now (no_first (fields_within 20) (λ _. moment) c.args.bytes.now none)) c.in_err-fields.ensures)

pub returns-in_err-version : goal.returns-in_err-version
returns-in_err-version c =
    let p = err_from_is_err_and c.from_residual-in_err-version.result c.from_residual-in_err-version.ensures.1 in
    rw (p.1, p.2) (fails_also c.in_err-version.field-0.0 (λ none. kind_none (1 ∷ []) found_of_parts found_parts found_kind c.args.bytes.now (no_second (fields_within 20) (λ _. moment) c.args.bytes.now c.in_ok-fields.fields c.in_ok-fields.rest.now c.in_ok-fields.ensures (none))) c.in_err-version.ensures)

pub returns : goal.returns
returns c = kind_read (1 ∷ []) found_of_parts found_parts found_kind c.args.bytes.now (c.in_ok-fields.fields, c.in_ok-version.version) c.in_ok-version.rest.now (pair_read (fields_within 20) (λ _. moment) c.args.bytes.now c.in_ok-fields.fields c.in_ok-fields.rest.now c.in_ok-version.version c.in_ok-version.rest.now c.in_ok-fields.ensures (c.in_ok-version.ensures))
