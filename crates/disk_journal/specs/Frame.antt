-- A frame: what an append writes behind an open gate.
use Rattle.std.specs.Prelude.{◌≡◌, ℕ, ◌-◌, ◌^◌, ◌<◌, List, [], ◌∷◌, ◌++◌, length, take, drop}
use Rattle.std.specs.Int.{w64, to_be_bytes}

-- the length, the payload and a closed gate
unfoldable pub framed : List ℕ → List ℕ
framed payload = to_be_bytes w64 (length payload) ++ (payload ++ 0 ∷ [])

-- the payload of a frame
abbrev pub payload_in : List ℕ → List ℕ
payload_in bytes = take (length bytes - 9) (drop 8 bytes)

pub record IsFrame (bytes : List ℕ) : Type 0 where
  pub short : length (payload_in bytes) < 2 ^ 64
  pub split : bytes ≡ framed (payload_in bytes)
