-- Laws of values and their order.
use Rattle.std.specs.Prelude.{◌≡◌, ◌≢◌, ◌↔◌, ◌⊎◌, ℕ, List, ◌∷◌, ◌++◌, Option, Some, None}
use Rattle.value_model.specs.declared.timestamp.Timestamp.{Timestamp}
use Rattle.value_model.specs.Changes.{with_value_at, without_value_at}
use Rattle.value_model.specs.Data.{Data, Entries, map_of, time, pending, text}
use Rattle.value_model.specs.Fields.{AreFields, field, with_field, without_field}
use Rattle.value_model.specs.Order.{Before}
use Rattle.value_model.specs.Paths.{value_at, value_in}

-- values are in a strict order, in which of two values one is before the other or they are the same
pub record ValuesAreOrdered : Type 0 where
  pub strict : (a : Data) → ¬ (Before a a)
  pub transitive : (a b c : Data) → Before a b → Before b c → Before a c
  pub total : (a b : Data) → Before a b ⊎ ((a ≡ b) ⊎ Before b a)

-- neither value is before the other
abbrev pub Ties : Data → Data → Type 0
Ties a b = ¬ (Before a b) × ¬ (Before b a)

-- that is an equivalence, and holds of the same values alone
pub record TiesAreEqual : Type 0 where
  pub reflexive : (a : Data) → Ties a a
  pub symmetric : (a b : Data) → Ties a b → Ties b a
  pub transitive : (a b c : Data) → Ties a b → Ties b c → Ties a c
  pub same : (a b : Data) → Ties a b ↔ (a ≡ b)

-- a time that isn't known yet stands after every time that is, and before every text
pub record PendingTimesStand : Type 0 where
  pub after_times : (at t : Timestamp) → Before (time t) (pending at)
  pub before_texts : (at : Timestamp) (s : List ℕ) → Before (pending at) (text s)

-- fields are a finite map: what is put at a name stands there, what is taken away doesn't, no other name is touched, and
-- fields with the same values at all names are the same
pub record FieldsAreAMap : Type 0 where
  pub put_here : (fields : Entries) (name : List ℕ) (value : Data) → field (with_field fields name value) name ≡ Some value
  pub put_elsewhere : (fields : Entries) (name : List ℕ) (value : Data) (other : List ℕ) → other ≢ name → field (with_field fields name value) other ≡ field fields other
  pub removed_here : (fields : Entries) (name : List ℕ) → AreFields fields → field (without_field fields name) name ≡ None
  pub removed_elsewhere : (fields : Entries) (name other : List ℕ) → other ≢ name → field (without_field fields name) other ≡ field fields other
  pub alike : (fields others : Entries) → AreFields fields → AreFields others → ((name : List ℕ) → field fields name ≡ field others name) → fields ≡ others

-- a map stands there
abbrev pub IsMap : Option Data → Type 0
IsMap found = (fields : Entries) × (found ≡ Some (map_of fields))

-- what stands at each path after a change at one path: a value that was put stands at its path with all that it holds,
-- under maps; what was taken away leaves the maps above it, and makes none; nothing beside the path changes
pub record PathsHold : Type 0 where
  pub put_below : (fields : Entries) (name : List ℕ) (path inside : List (List ℕ)) (value : Data) → value_at (with_value_at fields (name ∷ path) value) ((name ∷ path) ++ inside) ≡ value_in value inside
  pub put_above : (fields : Entries) (above : List (List ℕ)) (name : List ℕ) (path : List (List ℕ)) (value : Data) → IsMap (value_at (with_value_at fields (above ++ name ∷ path) value) above)
  pub put_apart : (fields : Entries) (above : List (List ℕ)) (name other : List ℕ) (path beside : List (List ℕ)) (value : Data) → other ≢ name → value_at (with_value_at fields (above ++ name ∷ path) value) (above ++ other ∷ beside) ≡ value_at fields (above ++ other ∷ beside)
  pub removed_maps : (fields : Entries) (above : List (List ℕ)) (name : List ℕ) (path : List (List ℕ)) → IsMap (value_at fields above) → IsMap (value_at (without_value_at fields (above ++ name ∷ path)) above)
  pub removed_others : (fields : Entries) (above : List (List ℕ)) (name : List ℕ) (path : List (List ℕ)) → ¬ (IsMap (value_at fields above)) → value_at (without_value_at fields (above ++ name ∷ path)) above ≡ value_at fields above
  pub removed_apart : (fields : Entries) (above : List (List ℕ)) (name other : List ℕ) (path beside : List (List ℕ)) → other ≢ name → value_at (without_value_at fields (above ++ name ∷ path)) (above ++ other ∷ beside) ≡ value_at fields (above ++ other ∷ beside)
