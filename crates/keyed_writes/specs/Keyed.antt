-- The places of a batch's writes by the key that they name.
use Rattle.std.specs.Prelude.{◌≡◌, ◌+◌, ◌<◌, ◌≤◌, ℕ, List, length, get_or, true, false, unwrap_or}
use Rattle.std.specs.Map.{lookup}
use Rattle.document_keys.specs.KeySet.{is_key}
use Rattle.mutations.specs.declared.write.Write.{Write}
use Rattle.mutations.specs.Written.{written_key}

-- the first place, from this one on, of a write that has the key; past the last write where none has
pub record IsNext (writes : List Write) (key : List (List ℕ)) (from place : ℕ) : Type 0 where
  pub behind : from ≤ place
  pub within : place ≤ length writes
  pub passed : (i : ℕ) (w : Write) → from ≤ i → i < place → is_key (written_key (get_or writes i w)) key ≡ false
  pub there : (w : Write) → place < length writes → is_key (written_key (get_or writes place w)) key ≡ true

-- the table has the first place of each key from this place on, and the list behind each such place the next one of its key
pub record AreLinked (from : ℕ) (writes : List Write)
    (firsts : List (List (List ℕ) × ℕ)) (nexts : List ℕ) : Type 0 where
  pub first : (key : List (List ℕ))
      → IsNext writes key from (unwrap_or (lookup (is_key key) firsts) (length writes))
  pub long : length nexts ≡ length writes
  pub next : (i : ℕ) (w : Write) (n : ℕ) → from ≤ i → i < length writes
      → IsNext writes (written_key (get_or writes i w)) (i + 1) (get_or nexts i n)
