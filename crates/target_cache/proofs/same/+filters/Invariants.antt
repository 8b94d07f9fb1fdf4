use Rattle.std.proofs.Common.{◌≡◌, ◌+◌, ◌*◌, take}
use Rattle.queries.specs.Filters.{filters_of}
use Rattle.queries.specs.Codes.{filter_size, filters_size}
use Rattle.target_cache.proofs.same.+filters.Given as goal

abbrev pub decreases-is_same_filter : goal.decreases-is_same_filter
decreases-is_same_filter l = 2 * filter_size l.filter.now + 1

abbrev pub decreases-are_same_filters : goal.decreases-are_same_filters
decreases-are_same_filters l = 2 * filters_size (filters_of l.filters.now)

-- those so far are the same
abbrev pub invariant-are_same_filters-loop-i : goal.invariant-are_same_filters-loop-i
invariant-are_same_filters-loop-i l = take l.i l.filters ≡ take l.i l.others
