use Rattle.std.proofs.Common.{[], ◌∷◌, ◌≡◌, ◌+◌, ◌-◌, arith}
use Rattle.std.proofs.lemmas.Result.{err_from_is_err_and}
use Rattle.record_parts.proofs.Wide.{fails_also, fails_always}
use Rattle.record_parts.proofs.Combine.{kind_none, kind_read, no_first, no_second, pair_read, list, no_count, no_item, list_read, no_tag, other_tag}
use Rattle.target_codec.proofs.Parts.{junction_form}
use Rattle.target_codec.proofs.FilterForms.{composite_of_parts, composite_parts, composite_more, filter_tagged, filter_other, filter_within, nests_none, unique_filter}
use Rattle.target_codec.proofs.filters.+filters.Goals as goal

pub filter_of-returns-then-most-eq0 : goal.filter_of-returns-then-most-eq0
filter_of-returns-then-most-eq0 t c = rw c.if-most-eq0.true (nests_none c.args.bytes.now)

pub filter_of-returns-in_err-byte : goal.filter_of-returns-in_err-byte
filter_of-returns-in_err-byte t c =
    let p = err_from_is_err_and c.from_residual.result c.from_residual.ensures.1 in
    rw p.1 (fails_always p.0 (no_tag filter_tagged c.args.bytes.now c.in_err-byte.ensures))

pub filter_of-returns-in-1 : goal.filter_of-returns-in-1
filter_of-returns-in-1 t c =
    let is : c.args.most - 1 + 1 ≡ c.args.most = omega arith in
    rw (c.in_ok-byte.ensures, c.in-1.is) (rw is at c.composite_of.ensures)

pub filter_of-returns-in-2 : goal.filter_of-returns-in-2
filter_of-returns-in-2 t c =
    let is : c.args.most - 1 + 1 ≡ c.args.most = omega arith in
    rw (c.in_ok-byte.ensures, c.in-2.is) (rw is at (c.comparison_of.ensures (c.args.most - 1)))

pub filter_of-returns-in-3 : goal.filter_of-returns-in-3
filter_of-returns-in-3 t c =
    let is : c.args.most - 1 + 1 ≡ c.args.most = omega arith in
    rw (c.in_ok-byte.ensures, c.in-3.is) (rw is at (c.unary_of.ensures (c.args.most - 1)))

pub filter_of-returns-in_default : goal.filter_of-returns-in_default
filter_of-returns-in_default t c = other_tag filter_tagged c.args.bytes.now c.in_ok-byte.byte c.in_ok-byte.rest.now c.in_ok-byte.ensures (filter_other c.args.most c.in_ok-byte.byte (λ e. absurd (omega (arith, e))) (λ e. absurd (omega (arith, e))) (λ e. absurd (omega (arith, e))))

pub filters_of-returns-in_err-count : goal.filters_of-returns-in_err-count
filters_of-returns-in_err-count t c =
    let p = err_from_is_err_and c.from_residual.result c.from_residual.ensures.1 in
    rw (p.1, p.2) (fails_also c.in_err-count.field-0.0 (no_count (filter_within c.args.most) c.args.bytes.now) c.in_err-count.ensures)

pub filters_of-returns-in_err-filter : goal.filters_of-returns-in_err-filter
filters_of-returns-in_err-filter t c =
    let p = err_from_is_err_and c.from_residual-in_err-filter.result c.from_residual-in_err-filter.ensures.1 in
    rw (p.1, p.2) (fails_also c.in_err-filter.field-0.0 (no_item (filter_within c.args.most) c.args.bytes.now c.in_ok-count.count c.in_ok-count.start.now c.loop.counter c.loop.filters.items c.loop.rest.now c.in_ok-count.ensures c.loop-test.true c.loop.invariant) c.in_err-filter.ensures)

pub filters_of-returns : goal.filters_of-returns
filters_of-returns t c = list_read (filter_within c.args.most) c.args.bytes.now c.in_ok-count.count c.in_ok-count.start.now c.loop.counter c.loop.filters.items c.loop.rest.now c.in_ok-count.ensures (omega (arith, c.loop-test.false)) c.loop.invariant

pub composite_of-returns-in_err-op : goal.composite_of-returns-in_err-op
composite_of-returns-in_err-op t c =
    let p = err_from_is_err_and c.from_residual.result c.from_residual.ensures.1 in
    rw (p.1, p.2) (fails_also c.in_err-op.field-0.0 (λ none. kind_none (1 ∷ []) composite_of_parts (composite_parts c.args.most (unique_filter c.args.most)) (composite_more c.args.most (unique_filter c.args.most)) c.args.bytes.now (no_first junction_form (λ _. (list (filter_within c.args.most))) c.args.bytes.now none)) c.in_err-op.ensures)

pub composite_of-returns-in_err-filters : goal.composite_of-returns-in_err-filters
composite_of-returns-in_err-filters t c =
    let p = err_from_is_err_and c.from_residual-in_err-filters.result c.from_residual-in_err-filters.ensures.1 in
    rw (p.1, p.2) (fails_also c.in_err-filters.field-0.0 (λ none. kind_none (1 ∷ []) composite_of_parts (composite_parts c.args.most (unique_filter c.args.most)) (composite_more c.args.most (unique_filter c.args.most)) c.args.bytes.now (no_second junction_form (λ _. (list (filter_within c.args.most))) c.args.bytes.now c.in_ok-op.op c.in_ok-op.rest.now c.in_ok-op.ensures (none))) c.in_err-filters.ensures)

pub composite_of-returns : goal.composite_of-returns
composite_of-returns t c = kind_read (1 ∷ []) composite_of_parts (composite_parts c.args.most (unique_filter c.args.most)) (composite_more c.args.most (unique_filter c.args.most)) c.args.bytes.now (c.in_ok-op.op, c.in_ok-filters.filters.items) c.in_ok-filters.rest.now (pair_read junction_form (λ _. (list (filter_within c.args.most))) c.args.bytes.now c.in_ok-op.op c.in_ok-op.rest.now c.in_ok-filters.filters.items c.in_ok-filters.rest.now c.in_ok-op.ensures (c.in_ok-filters.ensures))
