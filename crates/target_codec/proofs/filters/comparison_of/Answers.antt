use Rattle.std.proofs.Common.{[], ◌∷◌}
use Rattle.std.proofs.lemmas.Result.{err_from_is_err_and}
use Rattle.record_parts.proofs.Wide.{fails_also}
use Rattle.record_parts.proofs.Combine.{kind_none, kind_read, no_first, no_second, pair_read, both}
use Rattle.record_parts.proofs.Values.{value_within}
use Rattle.target_codec.proofs.Parts.{query_path, operator_form}
use Rattle.target_codec.proofs.FilterForms.{comparison_of_parts, comparison_parts, comparison_more}
use Rattle.target_codec.proofs.filters.comparison_of.Goals as goal

pub returns-in_err-path : goal.returns-in_err-path
returns-in_err-path c most =
    let p = err_from_is_err_and c.from_residual.result c.from_residual.ensures.1 in
    rw (p.1, p.2) (fails_also c.in_err-path.field-0.0 (λ none. kind_none (2 ∷ []) comparison_of_parts comparison_parts (comparison_more most) c.args.bytes.now (no_first query_path (λ _. (both operator_form (value_within 20))) c.args.bytes.now none)) c.in_err-path.ensures)

pub returns-in_err-op : goal.returns-in_err-op
returns-in_err-op c most =
    let p = err_from_is_err_and c.from_residual-in_err-op.result c.from_residual-in_err-op.ensures.1 in
    rw (p.1, p.2) (fails_also c.in_err-op.field-0.0 (λ none. kind_none (2 ∷ []) comparison_of_parts comparison_parts (comparison_more most) c.args.bytes.now (no_second query_path (λ _. (both operator_form (value_within 20))) c.args.bytes.now c.in_ok-path.path c.in_ok-path.rest.now c.in_ok-path.ensures (no_first operator_form (λ _. (value_within 20)) c.in_ok-path.rest.now none))) c.in_err-op.ensures)

pub returns-in_err-value : goal.returns-in_err-value
returns-in_err-value c most =
    let p = err_from_is_err_and c.from_residual-in_err-value.result c.from_residual-in_err-value.ensures.1 in
    rw (p.1, p.2) (fails_also c.in_err-value.field-0.0 (λ none. kind_none (2 ∷ []) comparison_of_parts comparison_parts (comparison_more most) c.args.bytes.now (no_second query_path (λ _. (both operator_form (value_within 20))) c.args.bytes.now c.in_ok-path.path c.in_ok-path.rest.now c.in_ok-path.ensures (no_second operator_form (λ _. (value_within 20)) c.in_ok-path.rest.now c.in_ok-op.op c.in_ok-op.rest.now c.in_ok-op.ensures (none)))) c.in_err-value.ensures)

pub returns : goal.returns
returns c most = kind_read (2 ∷ []) comparison_of_parts comparison_parts (comparison_more most) c.args.bytes.now (c.in_ok-path.path, (c.in_ok-op.op, c.in_ok-value.value)) c.in_ok-value.rest.now (pair_read query_path (λ _. (both operator_form (value_within 20))) c.args.bytes.now c.in_ok-path.path c.in_ok-path.rest.now (c.in_ok-op.op, c.in_ok-value.value) c.in_ok-value.rest.now c.in_ok-path.ensures (pair_read operator_form (λ _. (value_within 20)) c.in_ok-path.rest.now c.in_ok-op.op c.in_ok-op.rest.now c.in_ok-value.value c.in_ok-value.rest.now c.in_ok-op.ensures (c.in_ok-value.ensures)))
