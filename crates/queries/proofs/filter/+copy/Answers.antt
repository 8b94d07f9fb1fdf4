use Rattle.std.proofs.Common.{rules}
use Rattle.queries.proofs.Sizes.{item_below}
use Rattle.queries.proofs.filter.+copy.Goals as goal

pub copy_filters-copy-requires : goal.copy_filters-copy-requires
copy_filters-copy-requires t c =
    let within = item_below c.deref-filter-items.result.now c.loop-filter.filter-index c.filter-item.result c.loop-filter-test.true in
    search rules
