-- How limbo listens are stored: all keys in one list, of which the first run, and beside them the ids of those.
use Rattle.std.specs.Prelude.{◌≡◌, ℕ, ◌+◌, ◌-◌, ◌≤◌, ◌<◌, ◌<ℤ◌, ℤ, pos, ◌&&◌, nat_lt, nat_le, if◌then◌else◌}
use Rattle.std.specs.Prelude.{fold, List, [], ◌∷◌, ◌++◌, length, zip, drop, Result, Ok, Err, slice_index_or}
use Rattle.limbo_resolver.specs.Limbo.{Key, Limbo, has}

-- what contracts see of them
abbrev pub seen : List ℤ → List Key → ℕ → Limbo
seen ids keys next = record { running = zip ids keys; waiting = drop (length ids) keys; next = next }

-- the ids ascend, above one bound and below another
abbrev pub Ascend : ℤ → List ℤ → ℤ → Type 0
Ascend low [] high = low <ℤ high
Ascend low (id ∷ ids) high = (low <ℤ id) × Ascend id ids high

-- each of the first keys has an id; the ids are positive and ascend, and the next is behind them
pub record IsInOrder (ids : List ℤ) (keys : List Key) (next : ℕ) : Type 0 where
  pub few : length ids ≤ length keys
  pub ascending : Ascend (pos 0) ids (pos next)

-- the keys with one more, if it isn't there
abbrev pub with_one : List Key → Key → List Key
with_one keys key = if has keys key then keys else keys ++ key ∷ []

-- the keys with these, each put behind the others if it isn't there
abbrev pub joined : List Key → List Key → List Key
joined keys wanted = fold with_one keys wanted

-- the first of the queue, in so many places: the listens that start
abbrev pub firsts : ℕ → ℕ → List Key → List (ℤ × Key)
firsts places next [] = []
firsts places next (key ∷ queue) =
    if nat_lt 0 places && nat_le next 2147483647 then (pos next, key) ∷ firsts (places - 1) (next + 2) queue else []

-- where an ascending list has the id, or else where it would stand
abbrev pub IsPlace : List ℤ → ℤ → Result ℕ ℕ → Type 0
IsPlace ids id (Ok i) = (i < length ids) × ((d : ℤ) → slice_index_or ids i d ≡ id)
IsPlace ids id (Err i) = (k : ℕ) (d : ℤ) → k < length ids → (slice_index_or ids k d ≡ id → ⊥)
