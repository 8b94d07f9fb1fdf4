-- Where rows are found by their targets: the places of the rows, in an order of the targets that goes by their paths.
use Rattle.std.specs.Prelude.{◌≡◌, ℕ, ◌<◌, ◌≤◌, List, [], length, map as each, option_map, unwrap_or, slice_index_or}
use Rattle.std.specs.List.{All, AllPairs, Contains, slice_get}
use Rattle.document_keys.specs.Order.{PathBefore}
use Rattle.queries.specs.declared.target.Target.{Target}
use Rattle.queries.specs.declared.target.Target.TheVariants.{Document, Collection}
use Rattle.target_cache.specs.declared.row.Row.{Row}

-- documents are before collections, and both go by their paths
abbrev pub IsBefore : Target → Target → Type 0
IsBefore (Document key) (Document other) = PathBefore key other
IsBefore (Document key) (Collection other) = Unit {0}
IsBefore (Collection target) (Document other) = ⊥
IsBefore (Collection target) (Collection other) = PathBefore target.collection other.collection

-- what stands for the target of a place that there isn't
abbrev pub no_target : Target
no_target = Document []

-- the target of the row at a place
abbrev pub target_of : List Row → ℕ → Target
target_of rows place = unwrap_or (option_map (λ (r : Row). r.target) (slice_get rows place)) no_target

-- the targets of the rows at these places
abbrev pub targets_in : List Row → List ℕ → List Target
targets_in rows order = each (target_of rows) order

-- the first target isn't after the second
abbrev pub IsUpTo : Target → Target → Type 0
IsUpTo target other = IsBefore other target → ⊥

-- each row has its place in the order, in which the targets ascend
pub record IsOrder (rows : List Row) (order : List ℕ) : Type 0 where
  pub every : (place : ℕ) → place < length rows → Contains order place
  pub within : All (λ place. place < length rows) order
  pub ascending : AllPairs IsUpTo (targets_in rows order)

-- the targets before this index are before the target, and those from it on aren't
pub record IsLower (targets : List Target) (target : Target) (index : ℕ) : Type 0 where
  pub inside : index ≤ length targets
  pub below : (k : ℕ) → k < index → IsBefore (slice_index_or targets k no_target) target
  pub above : (k : ℕ) → index ≤ k → k < length targets → IsBefore (slice_index_or targets k no_target) target → ⊥

-- the place is that of a row of the target
abbrev pub IsPlaceOf : List Row → Target → ℕ → Type 0
IsPlaceOf rows target place = (place < length rows) × (target_of rows place ≡ target)
