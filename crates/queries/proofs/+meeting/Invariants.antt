use Rattle.std.proofs.Common.{◌+◌, ◌*◌, take}
use Rattle.std.specs.List.{All}
use Rattle.queries.specs.Codes.{filter_size, filters_size}
use Rattle.queries.specs.Filters.{filters_of}
use Rattle.queries.specs.Found.{standing_at}
use Rattle.queries.specs.Holding.{Meets}
use Rattle.queries.proofs.+meeting.Given as goal

abbrev pub decreases-filter::Filter::is_met_by : goal.decreases-filter::Filter::is_met_by
decreases-filter::Filter::is_met_by l = 2 * filter_size l.self.now + 1

abbrev pub decreases-holding::are_met_by : goal.decreases-holding::are_met_by
decreases-holding::are_met_by l = 2 * filters_size (filters_of l.filters.now.items)

abbrev pub decreases-holding::is_one_met_by : goal.decreases-holding::is_one_met_by
decreases-holding::is_one_met_by l = 2 * filters_size (filters_of l.filters.now.items)

abbrev pub invariant-holding::are_met_by-loop-filter : goal.invariant-holding::are_met_by-loop-filter
invariant-holding::are_met_by-loop-filter l = All (Meets (standing_at l.candidate)) (take l.filter-index l.filter-items)

abbrev pub invariant-holding::is_one_met_by-loop-filter : goal.invariant-holding::is_one_met_by-loop-filter
invariant-holding::is_one_met_by-loop-filter l = All (λ f. Meets (standing_at l.candidate) f → ⊥) (take l.filter-index l.filter-items)
