use Rattle.std.proofs.Common.{[]}
use Rattle.std.proofs.lemmas.Result.{err_from_is_err_and}
use Rattle.record_parts.proofs.Wide.{fails_also}
use Rattle.record_parts.proofs.Combine.{kind_none, kind_read, no_first, no_second, pair_read}
use Rattle.target_codec.proofs.Parts.{query_path, direction_form, order_parts, order_of_parts, order_kind}
use Rattle.target_codec.proofs.orders.order_of.Goals as goal

pub returns-in_err-path : goal.returns-in_err-path
returns-in_err-path c =
    let p = err_from_is_err_and c.from_residual.result c.from_residual.ensures.1 in
    rw (p.1, p.2) (fails_also c.in_err-path.field-0.0 (λ none. kind_none ([]) order_of_parts order_parts order_kind c.args.bytes.now (no_first query_path (λ _. direction_form) c.args.bytes.now none)) c.in_err-path.ensures)

pub returns-in_err-descending : goal.returns-in_err-descending
returns-in_err-descending c =
    let p = err_from_is_err_and c.from_residual-in_err-descending.result c.from_residual-in_err-descending.ensures.1 in
    rw (p.1, p.2) (fails_also c.in_err-descending.field-0.0 (λ none. kind_none ([]) order_of_parts order_parts order_kind c.args.bytes.now (no_second query_path (λ _. direction_form) c.args.bytes.now c.in_ok-path.path c.in_ok-path.rest.now c.in_ok-path.ensures (none))) c.in_err-descending.ensures)

pub returns : goal.returns
returns c = kind_read ([]) order_of_parts order_parts order_kind c.args.bytes.now (c.in_ok-path.path, c.in_ok-descending.descending) c.in_ok-descending.rest.now (pair_read query_path (λ _. direction_form) c.args.bytes.now c.in_ok-path.path c.in_ok-path.rest.now c.in_ok-descending.descending c.in_ok-descending.rest.now c.in_ok-path.ensures (c.in_ok-descending.ensures))
