-- Lines that are put as they are printed.
use Rattle.std.specs.Prelude.{◌≡◌, ℕ, List, [], ◌∷◌}
use Rattle.json.specs.Token.{begin_object, key}
use Rattle.json.specs.Written.{Written}

-- a line is begun: an object, and the name of its one member
pub record IsBegun (name : List ℕ) (out : Written) : Type 0 where
  pub before : out.before ≡ []
  pub tokens : out.tokens ≡ begin_object ∷ key name ∷ []
