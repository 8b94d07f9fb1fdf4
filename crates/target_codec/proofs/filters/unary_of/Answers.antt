use Rattle.std.proofs.Common.{[], ◌∷◌}
use Rattle.std.proofs.lemmas.Result.{err_from_is_err_and}
use Rattle.record_parts.proofs.Wide.{fails_also}
use Rattle.record_parts.proofs.Combine.{kind_none, kind_read, no_first, no_second, pair_read}
use Rattle.target_codec.proofs.Parts.{query_path, test_form}
use Rattle.target_codec.proofs.FilterForms.{unary_of_parts, unary_parts, unary_more}
use Rattle.target_codec.proofs.filters.unary_of.Goals as goal

pub returns-in_err-op : goal.returns-in_err-op
returns-in_err-op c most =
    let p = err_from_is_err_and c.from_residual.result c.from_residual.ensures.1 in
    rw (p.1, p.2) (fails_also c.in_err-op.field-0.0 (λ none. kind_none (3 ∷ []) unary_of_parts unary_parts (unary_more most) c.args.bytes.now (no_first test_form (λ _. query_path) c.args.bytes.now none)) c.in_err-op.ensures)

pub returns-in_err-path : goal.returns-in_err-path
returns-in_err-path c most =
    let p = err_from_is_err_and c.from_residual-in_err-path.result c.from_residual-in_err-path.ensures.1 in
    rw (p.1, p.2) (fails_also c.in_err-path.field-0.0 (λ none. kind_none (3 ∷ []) unary_of_parts unary_parts (unary_more most) c.args.bytes.now (no_second test_form (λ _. query_path) c.args.bytes.now c.in_ok-op.op c.in_ok-op.rest.now c.in_ok-op.ensures (none))) c.in_err-path.ensures)

pub returns : goal.returns
returns c most = kind_read (3 ∷ []) unary_of_parts unary_parts (unary_more most) c.args.bytes.now (c.in_ok-op.op, c.in_ok-path.path) c.in_ok-path.rest.now (pair_read test_form (λ _. query_path) c.args.bytes.now c.in_ok-op.op c.in_ok-op.rest.now c.in_ok-path.path c.in_ok-path.rest.now c.in_ok-op.ensures (c.in_ok-path.ensures))
