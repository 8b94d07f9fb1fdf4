-- The places of the batches that name a key, and a table of them by key.
use Rattle.std.specs.Prelude.{◌≡◌, ◌==◌, ◌++◌, ℕ, List, [], ◌∷◌, Bool, false, Option, Some, None, is_some, unwrap_or, refl, IsTrue, if◌then◌else◌}
use Rattle.std.specs.Coded.{Coded, code_by, coded×, coded_bool, coded_list, coded_ℕ}
use Rattle.std.specs.List.{list_any}
use Rattle.std.specs.Map.{lookup}
use Rattle.std.specs.Option.{option_map_or}
use Rattle.document_keys.specs.KeySet.{is_key}

-- the key is among these
abbrev pub is_among : List (List (List ℕ)) → List (List ℕ) → Bool
is_among keys key = list_any (λ k. is_key k key) keys

-- the places of the batches that name a key, ascending, and whether one more finds room without memory
pub record Places : Type 0 where
  pub at : List ℕ
  pub room : Bool

-- the places are stored as the pair of their fields
abbrev pub places_code : Coded Places
places_code = code_by (List ℕ × Bool) (coded× (coded_list coded_ℕ) coded_bool) (λ p. (p.at, p.room)) (λ p. record { at = p.0; room = p.1 }) (λ _. refl)

-- the last of some places
abbrev pub last_of : List ℕ → Option ℕ
last_of [] = None
last_of (p ∷ ps) = Some (unwrap_or (last_of ps) p)

-- the place is the last of these
abbrev pub ends_in : ℕ → List ℕ → Bool
ends_in place at = option_map_or (λ p. p == place) (last_of at) false

-- the places with this one behind them, unless it is their last one already
abbrev pub with_place : ℕ → List ℕ → List ℕ
with_place place at = if ends_in place at then at else at ++ place ∷ []

-- the places without this one, if it is their first
abbrev pub without_place : ℕ → List ℕ → List ℕ
without_place place [] = []
without_place place (p ∷ ps) = if p == place then ps else p ∷ ps

-- a table of keys, each with its places
abbrev pub Table : Type 0
Table = List (List (List ℕ) × Places)

-- what the table has for the key
abbrev pub value_at : Table → List (List ℕ) → Option Places
value_at table key = lookup (is_key key) table

-- the table has something for the key
abbrev pub has_key : Table → List (List ℕ) → Bool
has_key table key = is_some (value_at table key)

-- the places of a key; none where the table has nothing for it
abbrev pub listed_in : Option Places → List ℕ
listed_in None = []
listed_in (Some places) = places.at

abbrev pub listed : Table → List (List ℕ) → List ℕ
listed table key = listed_in (value_at table key)

-- one more place of the key finds room
abbrev pub room_in : Option Places → Bool
room_in None = false
room_in (Some places) = places.room

abbrev pub has_room : Table → List (List ℕ) → Bool
has_room table key = room_in (value_at table key)

-- no key's places change
abbrev pub SameListed : Table → Table → Type 0
SameListed old new = (key : List (List ℕ)) → listed new key ≡ listed old key

-- all room stays, but that of these keys
abbrev pub KeepsOtherRoom : List (List (List ℕ)) → Table → Table → Type 0
KeepsOtherRoom keys old new = (key : List (List ℕ)) → is_among keys key ≡ false
    → IsTrue (has_room old key) → IsTrue (has_room new key)

-- of these keys those that have no place any more are not in the table
abbrev pub FreesKeys : List (List (List ℕ)) → Table → Type 0
FreesKeys keys table = (key : List (List ℕ)) → IsTrue (is_among keys key)
    → listed table key ≡ [] → has_key table key ≡ false
