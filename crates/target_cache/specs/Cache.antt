-- The targets of listeners (google.firestore.v1 Target), as contracts see them: rows in the order of their ids, and beside
-- them the room for more.
use Rattle.std.specs.Prelude.{◌≡◌, ◌↔◌, ℕ, ◌+◌, ◌*◌, ℤ, pos, List, Option, Some, None, refl}
use Rattle.std.specs.Coded.{Coded, code_by, coded×, coded_list, coded_ℕ}
use Rattle.std.specs.List.{slice_get}
use Rattle.queries.specs.declared.target.Target.{Target}
use Rattle.target_cache.specs.contracts.row.Row as row
use Rattle.target_cache.specs.declared.row.Row.{Row}

pub record Cache : Type 0 where
  pub rows : List Row
  pub spare : ℕ

-- a cache is stored as its fields
abbrev pub cache_code : Coded Cache
cache_code = code_by (List Row × ℕ) (coded× (coded_list row.the_row.coded) coded_ℕ) (λ c. (c.rows, c.spare)) (λ p. record { rows = p.0; spare = p.1 }) (λ _. refl)

-- the id of the row at a place: 2, 4, 6 and so on
abbrev pub id_at : ℕ → ℕ
id_at place = 2 * place + 2

-- the id is that of this row
pub record IsRow (rows : List Row) (id : ℤ) (row : Row) : Type 0 where
  pub place : ℕ
  pub is : id ≡ pos (id_at place)
  pub there : slice_get rows place ≡ Some row

-- the id is that of a row of the target
pub record HasTarget (rows : List Row) (target : Target) (id : ℤ) : Type 0 where
  pub row : Row
  pub of_id : IsRow rows id row
  pub same : row.target ≡ target

-- no id has a row of the target, or this one and no other
abbrev pub TellsId : List Row → Target → Option ℤ → Type 0
TellsId rows target None = (id : ℤ) → HasTarget rows target id → ⊥
TellsId rows target (Some found) = (id : ℤ) → HasTarget rows target id ↔ (id ≡ found)

-- a row of the target that holds nothing yet
abbrev pub blank : Target → Row
blank target = record { target = target; held = None }
