-- Whole numbers of 64 bits with sign: JSON numbers without fraction or exponent, but not `-0`, or texts.
use Rattle.std.specs.Prelude.{◌≡◌, ◌≢◌, ◌⊎◌, ◌≤◌, ℕ, ℤ, pos, List, length, get_or, codes, FitsSigned}
use Rattle.std.specs.Fmt.{signed_decimal}
use Rattle.std.specs.Int.{w32, w64}
use Rattle.serde_json.specs.Data.{Data as Json, number, unsigned, negative, string}

-- a text: an optional `-`, and then `0` or digits that don't begin with 0
pub record SpellsInteger (text : List ℕ) (z : ℤ) : Type 0 where
  pub fits : FitsSigned w64 z
  pub is : (text ≡ signed_decimal z) ⊎ ((text ≡ codes "-0") × (z ≡ pos 0))

-- the text of a number has no `+` in front, no 0 behind a `-`, and no 0 in front of another digit
pub record IsBare (text : List ℕ) : Type 0 where
  pub plus : get_or text 0 0 ≢ 43
  pub minus : get_or text 0 0 ≡ 45 → get_or text 1 0 ≢ 48
  pub zero : get_or text 0 0 ≡ 48 → length text ≡ 1

-- a JSON number that is kept as an integer
abbrev pub IsNumber : Json → ℤ → Type 0
IsNumber d z = ((n : ℕ) × (d ≡ number (unsigned n)) × (z ≡ pos n)) ⊎ (d ≡ number (negative z))

-- a whole number of 64 bits with sign
pub data SpellsWhole (d : Json) (z : ℤ) : Type 0 where
  as_number : FitsSigned w64 z → IsNumber d z → SpellsWhole d z
  as_text : (text : List ℕ) → d ≡ string text → SpellsInteger text z → SpellsWhole d z

-- one from 0 to the most
pub record SpellsUpTo (most : ℕ) (d : Json) (n : ℕ) : Type 0 where
  pub whole : SpellsWhole d (pos n)
  pub few : n ≤ most

-- the most documents that a filter of a watch stream counts: a number of 32 bits with sign has no more
abbrev pub max_count : ℕ
max_count = 2147483647

-- the last code of a status
abbrev pub max_code : ℕ
max_code = 16

-- the last id of a listener
abbrev pub max_listener_id : ℕ
max_listener_id = 4294967295

-- one of 32 bits
pub record SpellsShort (d : Json) (z : ℤ) : Type 0 where
  pub whole : SpellsWhole d z
  pub fits : FitsSigned w32 z
