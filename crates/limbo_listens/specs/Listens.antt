-- The documents in limbo that the listeners of a client show, and the listens of their own that these
-- documents have, as contracts see them.
use Rattle.std.specs.Prelude.{◌≡◌, ◌↔◌, ℕ, ℤ, Bool, List, [], ◌++◌, refl, unwrap_or}
use Rattle.std.specs.BTreeMap.{is_at}
use Rattle.std.specs.Coded.{Coded, code_by, coded×, coded_list, coded_ℕ, coded_ℤ}
use Rattle.std.specs.List.{Contains}
use Rattle.std.specs.Map.{lookup}
use Rattle.std.specs.Ordering.{nat_cmp}
use Rattle.document_keys.specs.KeySet.{IsAscending}
use Rattle.limbo_resolver.specs.Limbo.{Key, Limbo, ended, ids_of, started, updated}

-- the keys of each listener that are in limbo, by the listener's id, ascending; and the listens that
-- documents in limbo have, with those that wait for one
pub record Listens : Type 0 where
  pub shown : List (ℕ × List Key)
  pub limbo : Limbo

-- no listen runs, no key waits, and the first listen gets the id 1
abbrev pub first_limbo : Limbo
first_limbo = record { running = []; waiting = []; next = 1 }

-- the two are one id
abbrev pub is_id : ℕ → ℕ → Bool
is_id = λ id. is_at (nat_cmp id)

-- the keys of the listener of the id that are in limbo; none where none is kept
abbrev pub limbo_at : Listens → ℕ → List Key
limbo_at listens id = unwrap_or (lookup (is_id id) listens.shown) []

-- the key is in limbo for some listener
abbrev pub IsInLimbo : Listens → Key → Type 0
IsInLimbo listens key = (id : ℕ) × Contains (limbo_at listens id) key

-- ascending, the keys in limbo
pub record AreInLimbo (listens : Listens) (keys : List Key) : Type 0 where
  pub ascending : IsAscending keys
  pub each : (key : Key) → Contains keys key ↔ IsInLimbo listens key

-- just the keys in limbo have or await a listen now; these are the ids of the listens that ended,
-- then of those that started
pub record Settles (old new : Listens) (changed : List ℤ) : Type 0 where
  pub wanted : List Key
  pub are : AreInLimbo old wanted
  pub limbo : new.limbo ≡ updated wanted old.limbo
  pub same : (id : ℕ) → limbo_at new id ≡ limbo_at old id
  pub changed_are : changed ≡ ended wanted old.limbo.running ++ ids_of (started wanted old.limbo)

-- a key is stored as the list of its segments, and the listens as the tuple of their parts
abbrev pub key_code : Coded Key
key_code = coded_list (coded_list coded_ℕ)

abbrev pub limbo_code : Coded Limbo
limbo_code = code_by (List (ℤ × Key) × (List Key × ℕ))
    (coded× (coded_list (coded× coded_ℤ key_code)) (coded× (coded_list key_code) coded_ℕ))
    (λ s. (s.running, (s.waiting, s.next))) (λ p. record { running = p.0; waiting = p.1.0; next = p.1.1 }) (λ _. refl)

abbrev pub listens_code : Coded Listens
listens_code = code_by (List (ℕ × List Key) × Limbo)
    (coded× (coded_list (coded× coded_ℕ (coded_list key_code))) limbo_code)
    (λ l. (l.shown, l.limbo)) (λ p. record { shown = p.0; limbo = p.1 }) (λ _. refl)
