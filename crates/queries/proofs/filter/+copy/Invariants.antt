use Rattle.std.proofs.Common.{◌≡◌, ◌+◌, ◌*◌, take}
use Rattle.queries.specs.Filters.{filters_of}
use Rattle.queries.specs.Codes.{filter_size, filters_size}
use Rattle.queries.proofs.filter.+copy.Given as goal

abbrev pub decreases-Filter::copy : goal.decreases-Filter::copy
decreases-Filter::copy l = 2 * filter_size l.self.now + 1

abbrev pub decreases-copy_filters : goal.decreases-copy_filters
decreases-copy_filters l = 2 * filters_size (filters_of l.filters.now.items)

abbrev pub invariant-copy_filters-loop-filter : goal.invariant-copy_filters-loop-filter
invariant-copy_filters-loop-filter l = l.copies.items ≡ take l.filter-index l.filter-items
