use Rattle.std.proofs.Common.{[]}
use Rattle.std.proofs.lemmas.Result.{err_from_is_err_and}
use Rattle.record_parts.proofs.Wide.{fails_also}
use Rattle.record_parts.proofs.Combine.{kind_none, kind_read, list, no_first, no_second, pair_read}
use Rattle.record_parts.proofs.Basics.{flag}
use Rattle.record_parts.proofs.Values.{value_within}
use Rattle.target_codec.proofs.Parts.{cursor_parts, cursor_of_parts, cursor_kind}
use Rattle.target_codec.proofs.cursors.cursor_of.Goals as goal

pub returns-in_err-values : goal.returns-in_err-values
returns-in_err-values c =
    let p = err_from_is_err_and c.from_residual.result c.from_residual.ensures.1 in
    rw (p.1, p.2) (fails_also c.in_err-values.field-0.0 (λ none. kind_none ([]) cursor_of_parts cursor_parts cursor_kind c.args.bytes.now (no_first (list (value_within 20)) (λ _. flag) c.args.bytes.now none)) c.in_err-values.ensures)

pub returns-in_err-before : goal.returns-in_err-before
returns-in_err-before c =
    let p = err_from_is_err_and c.from_residual-in_err-before.result c.from_residual-in_err-before.ensures.1 in
    rw (p.1, p.2) (fails_also c.in_err-before.field-0.0 (λ none. kind_none ([]) cursor_of_parts cursor_parts cursor_kind c.args.bytes.now (no_second (list (value_within 20)) (λ _. flag) c.args.bytes.now c.in_ok-values.values.items c.in_ok-values.rest.now c.in_ok-values.ensures (none))) c.in_err-before.ensures)

pub returns : goal.returns
returns c = rw c.from_vec-values.ensures (kind_read ([]) cursor_of_parts cursor_parts cursor_kind c.args.bytes.now (c.in_ok-values.values.items, c.in_ok-before.before) c.in_ok-before.rest.now (pair_read (list (value_within 20)) (λ _. flag) c.args.bytes.now c.in_ok-values.values.items c.in_ok-values.rest.now c.in_ok-before.before c.in_ok-before.rest.now c.in_ok-values.ensures (c.in_ok-before.ensures)))
