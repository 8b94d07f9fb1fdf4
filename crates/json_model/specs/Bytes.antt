-- Bytes as base64 (RFC 4648): in the standard or the URL alphabet, with whole padding or none. The bits that are left over
-- at the end are zero.
use Rattle.std.specs.Prelude.{◌≡◌, ◌⊎◌, ℕ, List}
use Rattle.base64.specs.GeneralPurpose.{IsBytes, encode_of}
use Rattle.base64.specs.Engines.{standard, standard_no_pad, url_safe, url_safe_no_pad}

-- a text that is read as the bytes
pub record SpellsBytes (text bytes : List ℕ) : Type 0 where
  pub each : IsBytes bytes
  pub is : (text ≡ encode_of standard bytes) ⊎ ((text ≡ encode_of standard_no_pad bytes) ⊎ ((text ≡ encode_of url_safe bytes) ⊎ (text ≡ encode_of url_safe_no_pad bytes)))

-- the printed form: the standard alphabet with padding
abbrev pub printed_bytes : List ℕ → List ℕ
printed_bytes bytes = encode_of standard bytes
