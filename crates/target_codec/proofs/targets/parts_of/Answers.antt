use Rattle.std.proofs.Common.{[]}
use Rattle.std.proofs.lemmas.Result.{err_from_is_err_and}
use Rattle.record_parts.proofs.Wide.{fails_also}
use Rattle.record_parts.proofs.Options.{optional}
use Rattle.record_parts.proofs.Combine.{kind_none, kind_read, no_first, no_second, pair_read, both, list}
use Rattle.target_codec.proofs.Parts.{collection, order_form, cursor_form, limit_form}
use Rattle.target_codec.proofs.FilterForms.{filter_within, query_parts, query_of_parts, query_kind}
use Rattle.target_codec.proofs.targets.parts_of.Goals as goal

pub returns-in_err-collection : goal.returns-in_err-collection
returns-in_err-collection c =
    let p = err_from_is_err_and c.from_residual.result c.from_residual.ensures.1 in
    rw (p.1, p.2) (fails_also c.in_err-collection.field-0.0 (λ none. kind_none [] query_of_parts query_parts query_kind c.args.bytes.now (no_first collection (λ _. (both (optional (filter_within 20)) (both (list order_form) (both (optional cursor_form) (both (optional cursor_form) (optional limit_form)))))) c.args.bytes.now none)) c.in_err-collection.ensures)

pub returns-in_err-filter : goal.returns-in_err-filter
returns-in_err-filter c =
    let p = err_from_is_err_and c.from_residual-in_err-filter.result c.from_residual-in_err-filter.ensures.1 in
    rw (p.1, p.2) (fails_also c.in_err-filter.field-0.0 (λ none. kind_none [] query_of_parts query_parts query_kind c.args.bytes.now (no_second collection (λ _. (both (optional (filter_within 20)) (both (list order_form) (both (optional cursor_form) (both (optional cursor_form) (optional limit_form)))))) c.args.bytes.now c.in_ok-collection.collection c.in_ok-collection.rest.now c.in_ok-collection.ensures (no_first (optional (filter_within 20)) (λ _. (both (list order_form) (both (optional cursor_form) (both (optional cursor_form) (optional limit_form))))) c.in_ok-collection.rest.now none))) c.in_err-filter.ensures)

pub returns-in_err-orders : goal.returns-in_err-orders
returns-in_err-orders c =
    let p = err_from_is_err_and c.from_residual-in_err-orders.result c.from_residual-in_err-orders.ensures.1 in
    rw (p.1, p.2) (fails_also c.in_err-orders.field-0.0 (λ none. kind_none [] query_of_parts query_parts query_kind c.args.bytes.now (no_second collection (λ _. (both (optional (filter_within 20)) (both (list order_form) (both (optional cursor_form) (both (optional cursor_form) (optional limit_form)))))) c.args.bytes.now c.in_ok-collection.collection c.in_ok-collection.rest.now c.in_ok-collection.ensures (no_second (optional (filter_within 20)) (λ _. (both (list order_form) (both (optional cursor_form) (both (optional cursor_form) (optional limit_form))))) c.in_ok-collection.rest.now c.in_ok-filter.filter c.in_ok-filter.rest.now c.in_ok-filter.ensures (no_first (list order_form) (λ _. (both (optional cursor_form) (both (optional cursor_form) (optional limit_form)))) c.in_ok-filter.rest.now none)))) c.in_err-orders.ensures)

pub returns-in_err-start_at : goal.returns-in_err-start_at
returns-in_err-start_at c =
    let p = err_from_is_err_and c.from_residual-in_err-start_at.result c.from_residual-in_err-start_at.ensures.1 in
    rw (p.1, p.2) (fails_also c.in_err-start_at.field-0.0 (λ none. kind_none [] query_of_parts query_parts query_kind c.args.bytes.now (no_second collection (λ _. (both (optional (filter_within 20)) (both (list order_form) (both (optional cursor_form) (both (optional cursor_form) (optional limit_form)))))) c.args.bytes.now c.in_ok-collection.collection c.in_ok-collection.rest.now c.in_ok-collection.ensures (no_second (optional (filter_within 20)) (λ _. (both (list order_form) (both (optional cursor_form) (both (optional cursor_form) (optional limit_form))))) c.in_ok-collection.rest.now c.in_ok-filter.filter c.in_ok-filter.rest.now c.in_ok-filter.ensures (no_second (list order_form) (λ _. (both (optional cursor_form) (both (optional cursor_form) (optional limit_form)))) c.in_ok-filter.rest.now c.in_ok-orders.orders c.in_ok-orders.rest.now c.in_ok-orders.ensures (no_first (optional cursor_form) (λ _. (both (optional cursor_form) (optional limit_form))) c.in_ok-orders.rest.now none))))) c.in_err-start_at.ensures)

pub returns-in_err-end_at : goal.returns-in_err-end_at
returns-in_err-end_at c =
    let p = err_from_is_err_and c.from_residual-in_err-end_at.result c.from_residual-in_err-end_at.ensures.1 in
    rw (p.1, p.2) (fails_also c.in_err-end_at.field-0.0 (λ none. kind_none [] query_of_parts query_parts query_kind c.args.bytes.now (no_second collection (λ _. (both (optional (filter_within 20)) (both (list order_form) (both (optional cursor_form) (both (optional cursor_form) (optional limit_form)))))) c.args.bytes.now c.in_ok-collection.collection c.in_ok-collection.rest.now c.in_ok-collection.ensures (no_second (optional (filter_within 20)) (λ _. (both (list order_form) (both (optional cursor_form) (both (optional cursor_form) (optional limit_form))))) c.in_ok-collection.rest.now c.in_ok-filter.filter c.in_ok-filter.rest.now c.in_ok-filter.ensures (no_second (list order_form) (λ _. (both (optional cursor_form) (both (optional cursor_form) (optional limit_form)))) c.in_ok-filter.rest.now c.in_ok-orders.orders c.in_ok-orders.rest.now c.in_ok-orders.ensures (no_second (optional cursor_form) (λ _. (both (optional cursor_form) (optional limit_form))) c.in_ok-orders.rest.now c.in_ok-start_at.start_at c.in_ok-start_at.rest.now c.in_ok-start_at.ensures (no_first (optional cursor_form) (λ _. (optional limit_form)) c.in_ok-start_at.rest.now none)))))) c.in_err-end_at.ensures)

pub returns-in_err-limit : goal.returns-in_err-limit
returns-in_err-limit c =
    let p = err_from_is_err_and c.from_residual-in_err-limit.result c.from_residual-in_err-limit.ensures.1 in
    rw (p.1, p.2) (fails_also c.in_err-limit.field-0.0 (λ none. kind_none [] query_of_parts query_parts query_kind c.args.bytes.now (no_second collection (λ _. (both (optional (filter_within 20)) (both (list order_form) (both (optional cursor_form) (both (optional cursor_form) (optional limit_form)))))) c.args.bytes.now c.in_ok-collection.collection c.in_ok-collection.rest.now c.in_ok-collection.ensures (no_second (optional (filter_within 20)) (λ _. (both (list order_form) (both (optional cursor_form) (both (optional cursor_form) (optional limit_form))))) c.in_ok-collection.rest.now c.in_ok-filter.filter c.in_ok-filter.rest.now c.in_ok-filter.ensures (no_second (list order_form) (λ _. (both (optional cursor_form) (both (optional cursor_form) (optional limit_form)))) c.in_ok-filter.rest.now c.in_ok-orders.orders c.in_ok-orders.rest.now c.in_ok-orders.ensures (no_second (optional cursor_form) (λ _. (both (optional cursor_form) (optional limit_form))) c.in_ok-orders.rest.now c.in_ok-start_at.start_at c.in_ok-start_at.rest.now c.in_ok-start_at.ensures (no_second (optional cursor_form) (λ _. (optional limit_form)) c.in_ok-start_at.rest.now c.in_ok-end_at.end_at c.in_ok-end_at.rest.now c.in_ok-end_at.ensures (none))))))) c.in_err-limit.ensures)

pub returns : goal.returns
returns c = kind_read [] query_of_parts query_parts query_kind c.args.bytes.now (c.in_ok-collection.collection, (c.in_ok-filter.filter, (c.in_ok-orders.orders, (c.in_ok-start_at.start_at, (c.in_ok-end_at.end_at, c.in_ok-limit.limit))))) c.in_ok-limit.rest.now (pair_read collection (λ _. (both (optional (filter_within 20)) (both (list order_form) (both (optional cursor_form) (both (optional cursor_form) (optional limit_form)))))) c.args.bytes.now c.in_ok-collection.collection c.in_ok-collection.rest.now (c.in_ok-filter.filter, (c.in_ok-orders.orders, (c.in_ok-start_at.start_at, (c.in_ok-end_at.end_at, c.in_ok-limit.limit)))) c.in_ok-limit.rest.now c.in_ok-collection.ensures (pair_read (optional (filter_within 20)) (λ _. (both (list order_form) (both (optional cursor_form) (both (optional cursor_form) (optional limit_form))))) c.in_ok-collection.rest.now c.in_ok-filter.filter c.in_ok-filter.rest.now (c.in_ok-orders.orders, (c.in_ok-start_at.start_at, (c.in_ok-end_at.end_at, c.in_ok-limit.limit))) c.in_ok-limit.rest.now c.in_ok-filter.ensures (pair_read (list order_form) (λ _. (both (optional cursor_form) (both (optional cursor_form) (optional limit_form)))) c.in_ok-filter.rest.now c.in_ok-orders.orders c.in_ok-orders.rest.now (c.in_ok-start_at.start_at, (c.in_ok-end_at.end_at, c.in_ok-limit.limit)) c.in_ok-limit.rest.now c.in_ok-orders.ensures (pair_read (optional cursor_form) (λ _. (both (optional cursor_form) (optional limit_form))) c.in_ok-orders.rest.now c.in_ok-start_at.start_at c.in_ok-start_at.rest.now (c.in_ok-end_at.end_at, c.in_ok-limit.limit) c.in_ok-limit.rest.now c.in_ok-start_at.ensures (pair_read (optional cursor_form) (λ _. (optional limit_form)) c.in_ok-start_at.rest.now c.in_ok-end_at.end_at c.in_ok-end_at.rest.now c.in_ok-limit.limit c.in_ok-limit.rest.now c.in_ok-end_at.ensures (c.in_ok-limit.ensures))))))
