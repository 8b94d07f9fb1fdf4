use Rattle.std.proofs.Common.{◌+◌, ◌*◌, take}
use Rattle.queries.specs.Codes.{filter_size, filters_size}
use Rattle.queries.specs.Filters.{filters_of, nodes_in}
use Rattle.queries.specs.Orders.{Gathers}
use Rattle.queries.proofs.whole_orders.+gathering.Given as goal

abbrev pub decreases-gather : goal.decreases-gather
decreases-gather l = 2 * filter_size l.filter.now + 1

abbrev pub decreases-gather_all : goal.decreases-gather_all
decreases-gather_all l = 2 * filters_size (filters_of l.filters.now.items)

abbrev pub invariant-gather_all-loop-filter : goal.invariant-gather_all-loop-filter
invariant-gather_all-loop-filter l = Gathers l.explicit (nodes_in (filters_of (take l.filter-index l.filter-items))) l.initial.paths l.paths
