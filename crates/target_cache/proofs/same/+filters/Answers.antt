use Rattle.std.proofs.Common.{◌≡◌, arith, rules}
use Rattle.queries.proofs.Sizes.{item_below}
use Rattle.target_cache.proofs.Composites.{composites}
use Rattle.target_cache.proofs.same.+filters.Goals as goal

pub are_same_filters-is_same_filter-requires : goal.are_same_filters-is_same_filter-requires
are_same_filters-is_same_filter-requires t c = let within = item_below c.args.filters.now c.loop-i.i c.index-filters-i.result (omega arith) in search rules

pub is_same_filter-returns-then-eq : goal.is_same_filter-returns-then-eq
is_same_filter-returns-then-eq t c =
    let same : c.in-Composite-Composite.a ≡ c.in-Composite-Composite.b = search rules in
    let told = rw (c.as_slice.ensures.value, c.as_slice-then-eq.ensures.value) at c.are_same_filters.ensures in
    rw (← c.filter.view_is, ← c.other.view_is, c.in-Composite-Composite.is-0, c.in-Composite-Composite.is-1)
    (composites c.in-Composite-Composite.a c.in-Composite-Composite.b c.in-Composite-Composite.left.items c.in-Composite-Composite.right.items c.are_same_filters.result same told)
