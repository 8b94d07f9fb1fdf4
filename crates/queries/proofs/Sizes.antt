-- a member is smaller than its list
use Rattle.std.proofs.Common.{ℕ, zero, suc, ◌+◌, ◌<◌, ◌≤◌, List, [], ◌∷◌, length, get_or, arith}
use Rattle.queries.specs.Filters.{FilterData, filters_of}
use Rattle.queries.specs.Codes.{filter_size, filters_size}

pub item_below : (fs : List FilterData) (i : ℕ) (d : FilterData) → i < length fs → filter_size (get_or fs i d) + 1 ≤ filters_size (filters_of fs)
item_below [] i d below = absurd (omega arith)
item_below (f ∷ fs) zero d below = omega arith
item_below (f ∷ fs) (suc i) d below = let rest = item_below fs i d (omega arith) in omega arith
