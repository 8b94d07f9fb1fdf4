-- One file in memory, and what a crash may leave of it.
use Rattle.std.specs.Prelude.{◌≡◌, ℕ, ◌+◌, ◌<◌, ◌≤◌, min, max, Any, Bool, List, [], ◌∷◌, ◌++◌, length, take, slice_index, ◌⊎◌, Option, unwrap_or, if◌then◌else◌}
use Rattle.host_api.specs.Host.{over}

pub record Disk : Type 0 where
  -- what a read gives
  pub bytes : List ℕ
  -- the least and the greatest length since the last sync
  pub least : ℕ
  pub greatest : ℕ
  -- where each range begins that was written since, and how long it is
  pub loose : List (ℕ × ℕ)

-- after a sync
abbrev pub fresh : List ℕ → Disk
fresh bytes = record { bytes = bytes; least = length bytes; greatest = length bytes; loose = [] }

-- the byte at i lies in one of these ranges
abbrev pub IsLoose : ℕ → List (ℕ × ℕ) → Type 0
IsLoose i ranges = Any (λ range. (range.0 ≤ i) × (i < range.0 + range.1)) ranges

-- A crash may leave these bytes: any in the ranges written since the last sync and past the least length, and as read elsewhere.
pub record IsImage (disk : Disk) (left : List ℕ) : Type 0 where
  pub no_shorter : disk.least ≤ length left
  pub no_longer : length left ≤ disk.greatest
  pub stable : (i : ℕ) → i < disk.least → (IsLoose i disk.loose → ⊥) → slice_index left i ≡ slice_index disk.bytes i

-- after a write, done or not
abbrev pub written : ℕ → List ℕ → Bool → Disk → Disk
written at piece done disk = record {
  bytes = if done then over disk.bytes at piece else disk.bytes;
  least = disk.least;
  greatest = max disk.greatest (at + length piece);
  loose = disk.loose ++ (at, length piece) ∷ [];
}

-- after a cut, done or not
abbrev pub shortened : ℕ → Bool → Disk → Disk
shortened len done disk = record {
  bytes = if done then take len disk.bytes else disk.bytes;
  least = min disk.least len;
  greatest = disk.greatest;
  loose = disk.loose;
}

-- The bytes that a crash leaves by choice: of this length, brought between the least and the greatest, and in the ranges
-- written since the last sync and past the least length this byte, if one is given, else as read.
pub record IsPicked (disk : Disk) (len : ℕ) (fill : Option ℕ) (left : List ℕ) : Type 0 where
  pub size : length left ≡ max disk.least (min len disk.greatest)
  pub stable : (i : ℕ) → i < disk.least → (IsLoose i disk.loose → ⊥) → slice_index left i ≡ slice_index disk.bytes i
  pub loose : (i : ℕ) → i < length left → IsLoose i disk.loose ⊎ disk.least ≤ i → slice_index left i ≡ unwrap_or fill (slice_index disk.bytes i)
