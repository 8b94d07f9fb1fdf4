-- The parts of a file behind its header.
use Rattle.std.specs.Prelude.{◌≡◌, ◌≢◌, ℕ, ◌^◌, ◌<◌, List, ◌∷◌, ◌++◌, length, All, flat_map}
use Rattle.std.specs.Int.{w64, to_be_bytes}
use Rattle.disk_journal.specs.File.{magic, record_of}

-- an open gate and the magic
abbrev pub start : List ℕ
start = 1 ∷ magic

-- eight bytes of a number, the highest first
unfoldable pub number : ℕ → List ℕ
number n = to_be_bytes w64 n

-- a closed gate, and anything behind it
pub record IsShut (bytes : List ℕ) : Type 0 where
  pub gate : ℕ
  pub shut : gate ≢ 1
  pub rest : List ℕ
  pub split : bytes ≡ gate ∷ rest

-- open records of these payloads, and behind them a closed gate
pub record IsRecords (payloads : List (List ℕ)) (bytes : List ℕ) : Type 0 where
  pub short : All (λ p. length p < 2 ^ 64) payloads
  pub behind : List ℕ
  pub shut : IsShut behind
  pub split : bytes ≡ flat_map record_of payloads ++ behind
