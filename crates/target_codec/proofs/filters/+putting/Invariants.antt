use Rattle.std.proofs.Common.{◌≡◌, ◌+◌, ◌*◌, ◌++◌, length, take}
use Rattle.std.specs.List.{flat_map}
use Rattle.queries.specs.Filters.{filters_of}
use Rattle.queries.specs.Codes.{filter_size, filters_size}
use Rattle.record_parts.specs.Spelling.{number}
use Rattle.target_codec.specs.Spelling.{filter}
use Rattle.target_codec.proofs.filters.+putting.Given as goal

abbrev pub decreases-put_filter : goal.decreases-put_filter
decreases-put_filter l = 2 * filter_size l.content.now + 1

abbrev pub decreases-put_filters : goal.decreases-put_filters
decreases-put_filters l = 2 * filters_size (filters_of l.filters.now.items)

abbrev pub invariant-put_filters-loop-filter : goal.invariant-put_filters-loop-filter
invariant-put_filters-loop-filter l = l.out.items ≡ (l.fn.out.items ++ number (length l.filters.items)) ++ flat_map filter (take l.filter-index l.filter-items)
