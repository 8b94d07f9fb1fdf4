-- Parts of a filter are smaller than it: what the recursions over filters rest on. No meaning stands here.
use Rattle.std.specs.Prelude.{◌+◌, ◌≤◌, max, List, [], ◌∷◌}
use Rattle.std.proofs.Common.{arith}
use denote.Param.Weighed.{most}
use Rattle.queries.specs.declared.filter.FilterKind.{FilterKind}
use Rattle.queries.specs.declared.filter.FilterKind.TheVariants.{Composite, Field, Unary}
use Rattle.queries.specs.declared.filter.Filter.TheDeep.{deep-FilterKind}
use Rattle.queries.specs.Filters.{FilterData, filters_of}
use Rattle.queries.specs.Codes.{filter_size, filters_size}
use Rattle.queries.specs.View.{kind_data}

most_le : (fs : List FilterData) → most (λ f. filter_size f + 1) fs ≤ filters_size (filters_of fs)
most_le [] = omega arith
most_le (f ∷ fs) = omega (arith, most_le fs)

pub kind_falls : (k : FilterKind) → max (deep-FilterKind k) 0 ≤ filter_size (kind_data k)
kind_falls (Composite op filters) = omega (arith, most_le filters.items)
kind_falls (Field path op value) = omega arith
kind_falls (Unary path op) = omega arith
