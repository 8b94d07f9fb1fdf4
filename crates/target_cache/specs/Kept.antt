-- What holds of the rows of a cache, and what its calls make of them.
use Rattle.std.specs.Prelude.{◌≡◌, ◌≢◌, ℕ, ◌<◌, ◌≤◌, ℤ, pos, List, Option, Some, None, length, slice_set}
use Rattle.std.specs.List.{AllPairs, slice_get}
use Rattle.queries.specs.declared.target.Target.{Target}
use Rattle.target_cache.specs.declared.row.Held.{Held}
use Rattle.target_cache.specs.declared.row.Row.{Row}
use Rattle.target_cache.specs.Cache.{IsRow, id_at}
use Rattle.target_cache.specs.Order.{IsOrder}

-- no two rows have equal targets
abbrev pub Differ : Row → Row → Type 0
Differ row other = row.target ≢ other.target

-- the order has the rows' places, the targets differ, and the next id is at most 2 ^ 31
pub record IsSound (rows : List Row) (order : List ℕ) : Type 0 where
  pub ordered : IsOrder rows order
  pub distinct : AllPairs Differ rows
  pub few : length rows ≤ 1073741823

-- no row has the target
abbrev pub IsNew : List Row → Target → Type 0
IsNew rows target = (id : ℤ) (row : Row) → IsRow rows id row → row.target ≢ target

-- the row of the id has its target still, and this besides; no other row changes
pub record Holds (id : ℤ) (held : Option Held) (old new : List Row) : Type 0 where
  pub place : ℕ
  pub row : Row
  pub is : id ≡ pos (id_at place)
  pub there : slice_get old place ≡ Some row
  pub set : new ≡ slice_set old place (record { target = row.target; held = held })

-- the row of an id, or none
abbrev pub TellsRow : List Row → ℤ → Option Row → Type 0
TellsRow rows id None = (row : Row) → IsRow rows id row → ⊥
TellsRow rows id (Some row) = IsRow rows id row

-- the ids of the rows, ascending
pub record AreIds (rows : List Row) (ids : List ℤ) : Type 0 where
  pub count : length ids ≡ length rows
  pub each : (place : ℕ) → place < length rows → slice_get ids place ≡ Some (pos (id_at place))
