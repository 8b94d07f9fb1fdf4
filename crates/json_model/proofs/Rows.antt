-- What holds of each row of a table holds of what is to stand under any name.
use Rattle.std.proofs.Common.{◌≡◌, ℕ, List, [], ◌∷◌, Bool, true, false, ◌&&◌, refl}
use Rattle.std.specs.Bool.{if◌then◌else◌}
use Rattle.std.specs.Str.{bytes_eq}
use Rattle.json_model.specs.declared.place.Place.{Place}
use Rattle.json_model.specs.declared.place.Place.TheVariants as place
use Rattle.json_model.specs.Places.{Row, placed}

abbrev pub all_rows : (Place → Bool) → List Row → Bool
all_rows test [] = true
all_rows test (row ∷ rows) = test row.1 && all_rows test rows

pub every_row : (test : Place → Bool) (rows : List Row) (name : List ℕ) → all_rows test rows ≡ true → test place.Unknown ≡ true → test (placed rows name) ≡ true
every_row test [] name all other = other
every_row test (row ∷ rows) name all other = by (bytes_eq name row.0) (test row.1) refl all (λ rest. every_row test rows name rest other)
  where
    by : (b c : Bool) → test row.1 ≡ c → (c && all_rows test rows) ≡ true → (all_rows test rows ≡ true → test (placed rows name) ≡ true) → test (if b then row.1 else placed rows name) ≡ true
    by true true is both behind = is
    by false true is both behind = behind both
    by b false is both behind = cc
