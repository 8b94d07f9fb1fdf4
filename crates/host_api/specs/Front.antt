-- What a stream of bytes begins with.
use Rattle.std.specs.Prelude.{◌≡◌, ℕ, ◌+◌, ◌≤◌, List, [], ◌∷◌, length, take, drop}
use Rattle.host_api.specs.Items.{Bytes, Overlong, limit, split}
use Rattle.host_api.specs.Reading.{past_newline}
use Rattle.host_api.specs.declared.memory_source.Front.{Front}
use Rattle.host_api.specs.declared.memory_source.Front.TheVariants.{Nothing, Line, TooLong}

-- a line of `size` bytes, which takes `taken` of them
pub record BeginsLine (size taken : ℕ) (rest : List ℕ) : Type 0 where
  pub within : size ≤ length rest
  pub ends : taken ≤ length rest
  pub takes : split rest ≡ Bytes (take size rest) ∷ split (drop taken rest)

-- a line that is too long
pub record BeginsLong (rest : List ℕ) : Type 0 where
  pub within : limit + 1 ≤ length rest
  pub takes : split rest ≡ Overlong ∷ split (past_newline (drop (limit + 1) rest))

abbrev pub IsFront : Front → List ℕ → Type 0
IsFront Nothing rest = rest ≡ []
IsFront (Line size taken) rest = BeginsLine size taken rest
IsFront TooLong rest = BeginsLong rest
