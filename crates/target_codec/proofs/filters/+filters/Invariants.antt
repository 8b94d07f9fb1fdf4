use Rattle.std.proofs.Common.{◌+◌, ◌*◌}
use Rattle.std.specs.List.{flat_map}
use Rattle.record_parts.specs.Reading.{Begins, AreMany}
use Rattle.target_codec.specs.Spelling.{filter, IsSpelledFilter}
use Rattle.target_codec.proofs.filters.+filters.Given as goal

abbrev pub decreases-filter_of : goal.decreases-filter_of
decreases-filter_of l = 4 * l.most

abbrev pub decreases-filters_of : goal.decreases-filters_of
decreases-filters_of l = 4 * l.most + 1

abbrev pub decreases-composite_of : goal.decreases-composite_of
decreases-composite_of l = 4 * l.most + 2

abbrev pub invariant-filters_of-loop : goal.invariant-filters_of-loop
invariant-filters_of-loop l = Begins (flat_map filter) (AreMany (IsSpelledFilter l.most) l.counter) l.initial.rest l.filters.items l.rest
