-- What reading the front of some bytes answers.
use Rattle.std.specs.Prelude.{◌≡◌, List, ℕ, ◌++◌, length, Result, Ok, Err}
use Rattle.std.specs.List.{AllByRecursion}
use Rattle.record_parts.specs.declared.fault.ReadError.{ReadError}
use Rattle.record_parts.specs.declared.fault.ReadError.TheVariants.{Memory, NotSpelled}

-- the bytes begin with the spelling of x, which has one, and the rest is what follows it
pub record Begins {X : Type 0} (spell : X → List ℕ) (Fits : X → Type 0) (bytes : List ℕ) (x : X) (rest : List ℕ) : Type 0 where
  pub parts : bytes ≡ spell x ++ rest
  pub fits : Fits x

-- the bytes begin with no spelling
abbrev pub BeginsNone : {X : Type 0} → (X → List ℕ) → (X → Type 0) → List ℕ → Type 0
BeginsNone {X} spell Fits bytes = (x : X) (rest : List ℕ) → Begins spell Fits bytes x rest → ⊥

-- why a reader failed: nothing is claimed where memory ran out
abbrev pub Fails : ReadError → Type 0 → Type 0
Fails Memory cause = Unit {0}
Fails NotSpelled cause = cause

-- a reader answers what the bytes begin with and the rest of them, and fails exactly where they begin with no spelling
abbrev pub Reads : {X Y : Type 0} → (X → List ℕ) → (X → Type 0) → List ℕ → (Y → X × List ℕ) → Result Y ReadError → Type 0
Reads spell Fits bytes view (Ok y) = Begins spell Fits bytes (view y).0 (view y).1
Reads spell Fits bytes view (Err e) = Fails e (BeginsNone spell Fits bytes)

-- a list of so many, each of which has a spelling
pub record AreMany {X : Type 0} (Fits : X → Type 0) (count : ℕ) (xs : List X) : Type 0 where
  pub len : length xs ≡ count
  pub each : AllByRecursion Fits xs
