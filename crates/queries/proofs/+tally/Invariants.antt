use Rattle.std.proofs.Common.{◌≡◌, ◌+◌, ◌*◌, min, take}
use Rattle.std.specs.List.{count_by}
use Rattle.queries.specs.Codes.{filter_size, filters_size}
use Rattle.queries.specs.Filters.{filters_of, nodes_in}
use Rattle.queries.specs.Rules.{is_marked}
use Rattle.queries.proofs.+tally.Given as goal

abbrev pub decreases-filter::Filter::tally : goal.decreases-filter::Filter::tally
decreases-filter::Filter::tally l = 2 * filter_size l.self.now + 1

abbrev pub decreases-rules::tally_all : goal.decreases-rules::tally_all
decreases-rules::tally_all l = 2 * filters_size (filters_of l.filters.now.items)

abbrev pub invariant-rules::tally_all-loop-filter : goal.invariant-rules::tally_all-loop-filter
invariant-rules::tally_all-loop-filter l = l.count ≡ min 2 (count_by (is_marked l.mark) (nodes_in (filters_of (take l.filter-index l.filter-items))))
