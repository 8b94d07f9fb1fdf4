-- What a mask makes of fields, said of each path.
use Rattle.std.specs.Prelude.{◌≡◌, ◌≢◌, ℕ, List, ◌∷◌, ◌++◌, IsSome}
use Rattle.std.specs.List.{Contains}
use Rattle.value_model.specs.Data.{Entries}
use Rattle.value_model.specs.Laws.{IsMap}
use Rattle.value_model.specs.Paths.{value_at}

-- a path equals another or extends it
abbrev pub Extends : List (List ℕ) → List (List ℕ) → Type 0
Extends path front = (names : List (List ℕ)) × (path ≡ front ++ names)

-- a path is a proper prefix of another
abbrev pub LeadsTo : List (List ℕ) → List (List ℕ) → Type 0
LeadsTo path further = (name : List ℕ) × (names : List (List ℕ)) × (further ≡ path ++ name ∷ names)

-- a path equals or extends a masked one
abbrev pub IsMasked : List (List (List ℕ)) → List (List ℕ) → Type 0
IsMasked mask path = (masked : List (List ℕ)) × Contains mask masked × Extends path masked

-- a path is a proper prefix of a masked one
abbrev pub IsAboveMask : List (List (List ℕ)) → List (List ℕ) → Type 0
IsAboveMask mask path = (masked : List (List ℕ)) × Contains mask masked × LeadsTo path masked

-- the input has a value at a masked path below a path
abbrev pub IsFilledBelow : Entries → List (List (List ℕ)) → List (List ℕ) → Type 0
IsFilledBelow input mask path = (masked : List (List ℕ)) × Contains mask masked × LeadsTo path masked × IsSome (value_at input masked)

-- what stands after a masked update, at each path: at and below a masked path what the input has, or nothing; above one a
-- map, where the input has a value at a masked path below it or a map was there, otherwise what was; elsewhere what was
pub record Masked (old input : Entries) (mask : List (List (List ℕ))) (new : Entries) : Type 0 where
  pub masked : (path : List (List ℕ)) → IsMasked mask path → value_at new path ≡ value_at input path
  pub made : (path : List (List ℕ)) → ¬ (IsMasked mask path) → IsFilledBelow input mask path → IsMap (value_at new path)
  pub maps : (path : List (List ℕ)) → ¬ (IsMasked mask path) → IsMap (value_at old path) → IsMap (value_at new path)
  pub left : (path : List (List ℕ)) → ¬ (IsMasked mask path) → ¬ (IsFilledBelow input mask path) → ¬ (IsMap (value_at old path)) → value_at new path ≡ value_at old path
  pub elsewhere : (path : List (List ℕ)) → ¬ (IsMasked mask path) → ¬ (IsAboveMask mask path) → value_at new path ≡ value_at old path

-- two paths part at a name
pub record PartsFrom (path other : List (List ℕ)) : Type 0 where
  pub shared : List (List ℕ)
  pub name : List ℕ
  pub next : List (List ℕ)
  pub other_name : List ℕ
  pub other_next : List (List ℕ)
  pub here : path ≡ shared ++ name ∷ next
  pub there : other ≡ shared ++ other_name ∷ other_next
  pub apart : other_name ≢ name

-- what stands after one masked path was taken over from the input
pub record TakesOver (old input : Entries) (path : List (List ℕ)) (new : Entries) : Type 0 where
  pub inside : (names : List (List ℕ)) → value_at new (path ++ names) ≡ value_at input (path ++ names)
  pub made : (above : List (List ℕ)) → LeadsTo above path → IsSome (value_at input path) → IsMap (value_at new above)
  pub maps : (above : List (List ℕ)) → LeadsTo above path → IsMap (value_at old above) → IsMap (value_at new above)
  pub left : (above : List (List ℕ)) → LeadsTo above path → ¬ (IsSome (value_at input path)) → ¬ (IsMap (value_at old above)) → value_at new above ≡ value_at old above
  pub beside : (other : List (List ℕ)) → PartsFrom path other → value_at new other ≡ value_at old other
  pub same : value_at old path ≡ value_at input path → new ≡ old
