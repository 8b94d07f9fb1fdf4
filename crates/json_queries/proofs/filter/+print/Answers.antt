use Rattle.std.proofs.Common.{rules}
use Rattle.queries.proofs.Sizes.{item_below}
use Rattle.json_model.proofs.PrintedLists.{printed_more}
use Rattle.json_queries.specs.Printed.{printed_filter}
use Rattle.json_queries.proofs.Shown.{all_printed}
use Rattle.json_queries.proofs.filter.+print.Goals as goal

pub print_filters-loop-filter-preserved : goal.print_filters-loop-filter-preserved
print_filters-loop-filter-preserved t c =
    printed_more printed_filter _ _ c.in_ok-print_filter.field-0 _ c.loop-filter.filter-index c.filter-item.result c.loop-filter-test.true c.filter-item.is c.in_ok-push.ensures.items c.in_ok-print_filter.ensures c.loop-filter.invariant

pub print_filters-print_filter-requires : goal.print_filters-print_filter-requires
print_filters-print_filter-requires t c =
    let within = item_below c.deref-filter-items.result.now c.loop-filter.filter-index c.filter-item.result c.loop-filter-test.true in
    search rules

pub print_filters-returns : goal.print_filters-returns
print_filters-returns t c = all_printed _ c.deref-filter-items.result.now _ c.loop-filter.filter-index c.deref-filter-items.ensures.value c.loop-filter-test.false c.loop-filter.auto.filter-index-end c.loop-filter.invariant
