use Rattle.std.proofs.Common.{◌≡◌, ◌+◌, ◌*◌, take}
use Rattle.serde_json.specs.View.{items_view}
use Rattle.json_model.specs.Forms.{printed_each}
use Rattle.queries.specs.Filters.{filters_of}
use Rattle.queries.specs.Codes.{filter_size, filters_size}
use Rattle.json_queries.specs.Printed.{printed_filter}
use Rattle.json_queries.proofs.filter.+print.Given as goal

abbrev pub decreases-print_filter : goal.decreases-print_filter
decreases-print_filter l = 2 * filter_size l.filter.now + 1

abbrev pub decreases-print_filters : goal.decreases-print_filters
decreases-print_filters l = 2 * filters_size (filters_of l.filters.now.items)

abbrev pub invariant-print_filters-loop-filter : goal.invariant-print_filters-loop-filter
invariant-print_filters-loop-filter l = items_view l.trees.items ≡ printed_each printed_filter (take l.filter-index l.filter-items)
