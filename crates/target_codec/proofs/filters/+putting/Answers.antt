use Rattle.std.proofs.Common.{[], ◌∷◌, rules}
use Rattle.queries.proofs.Sizes.{item_below}
use Rattle.record_parts.specs.Spelling.{many}
use Rattle.target_codec.specs.Spelling.{filter}
use Rattle.target_codec.proofs.FilterForms.{composite_filter, put_behind}
use Rattle.target_codec.proofs.filters.+putting.Goals as goal

pub put_filter-returns-in_ok-put_filters-in-Composite : goal.put_filter-returns-in_ok-put_filters-in-Composite
put_filter-returns-in_ok-put_filters-in-Composite t c =
    put_behind (1 ∷ c.junction_byte.result ∷ []) c.args.out.now.items c.extend_from_slice.new.self.items c.put_filters.new.out.items (many filter c.in-Composite.filters.items) (filter c.args.content.now)
    c.in_ok-extend_from_slice-in-Composite.ensures.items c.in_ok-put_filters-in-Composite.ensures (rw (← c.content.view_is, c.in-Composite.is, c.junction_byte.ensures) (composite_filter c.in-Composite.op c.in-Composite.filters.items))

pub put_filters-put_filter-requires : goal.put_filters-put_filter-requires
put_filters-put_filter-requires t c =
    let within = item_below c.deref-filter-items.result.now c.loop-filter.filter-index c.filter-item.result c.loop-filter-test.true in
    search rules
