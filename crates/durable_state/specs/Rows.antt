-- The rows of targets behind a commit.
use Rattle.std.specs.Prelude.{ℕ, ◌+◌, nat_eq, pos, List, [], ◌∷◌, fold, Option, Some, None, if◌then◌else◌}
use Rattle.std.specs.Option.{IsSome}
use Rattle.value_model.specs.declared.timestamp.Timestamp.{Timestamp}
use Rattle.outcome_codec.specs.declared.parts.PointRow.{PointRow}
use Rattle.target_cache.specs.Cache.{IsRow}
use Rattle.target_cache.specs.declared.row.Held.{Held}
use Rattle.target_cache.specs.declared.row.Row.{Row}

-- the rows from this id on, in steps of two: that of the id holds this, and all others stay
abbrev pub holding_from : ℕ → ℕ → Option Held → List Row → List Row
holding_from first id held [] = []
holding_from first id held (row ∷ rows) =
    (if nat_eq first id then record row { held = held } else row) ∷ holding_from (first + 2) id held rows

-- the row of the id holds this; the first row has the id 2
abbrev pub holding : ℕ → Option Held → List Row → List Row
holding id held rows = holding_from 2 id held rows

-- what a point tells of a target
abbrev pub held_at : Timestamp → PointRow → Held
held_at at row = record { token = row.token; version = at; keys = row.keys }

-- the rows of a point, each with its token, the read time and its keys
abbrev pub told : Timestamp → List PointRow → List Row → List Row
told at told_rows rows = fold (λ now row. holding row.id (Some (held_at at row)) now) rows told_rows

-- the rows of these ids hold nothing
abbrev pub blanked : List ℕ → List Row → List Row
blanked ids rows = fold (λ now id. holding id None now) rows ids

-- the id has a row
abbrev pub HasRow : List Row → ℕ → Type 0
HasRow rows id = (row : Row) × IsRow rows (pos id) row

-- the id has a row that holds something
abbrev pub IsHeld : List Row → ℕ → Type 0
IsHeld rows id = (row : Row) × IsRow rows (pos id) row × IsSome row.held
