use Rattle.std.proofs.Common.{[], length}
use Rattle.std.proofs.lemmas.Result.{err_from_is_err_and}
use Rattle.record_parts.proofs.Wide.{fails_also}
use Rattle.record_parts.proofs.WriteForms.{field_path, change_at, transform_parts, transform_of_parts, transform_kind}
use Rattle.record_parts.proofs.Combine.{no_first, no_second, pair_read, kind_read, kind_none}
use Rattle.record_parts.proofs.transforms.transform_of.Goals as goal

pub returns-in_err-path : goal.returns-in_err-path
returns-in_err-path c =
    let p = err_from_is_err_and c.from_residual.result c.from_residual.ensures.1 in
    rw (p.1, p.2) (fails_also c.in_err-path.field-0.0 (λ none. kind_none [] transform_of_parts transform_parts transform_kind c.args.bytes.now (no_first field_path (λ p. change_at (length p)) c.args.bytes.now none)) c.in_err-path.ensures)

pub returns-in_err-change : goal.returns-in_err-change
returns-in_err-change c =
    let p = err_from_is_err_and c.from_residual-in_err-change.result c.from_residual-in_err-change.ensures.1 in
    rw (p.1, p.2) (fails_also c.in_err-change.field-0.0
    (λ none. kind_none [] transform_of_parts transform_parts transform_kind c.args.bytes.now (no_second field_path (λ p. change_at (length p)) c.args.bytes.now c.in_ok-path.path c.in_ok-path.rest.now c.in_ok-path.ensures none))
    (rw c.len.ensures.count at c.in_err-change.ensures))

pub returns : goal.returns
returns c = kind_read [] transform_of_parts transform_parts transform_kind c.args.bytes.now (c.in_ok-path.path, c.in_ok-change.change) c.in_ok-change.rest.now
    (pair_read field_path (λ p. change_at (length p)) c.args.bytes.now c.in_ok-path.path c.in_ok-path.rest.now c.in_ok-change.change c.in_ok-change.rest.now c.in_ok-path.ensures (rw c.len.ensures.count at c.in_ok-change.ensures))
