-- Counts of faults, and of answers. A fault is told just where its count rose.
use Rattle.std.specs.Prelude.{◌≡◌, ℕ, ◌+◌, ◌-◌, ◌^◌, ◌≤◌, min, Result, Ok, Err, IsErr, IsErrOf}
use Rattle.host_api.specs.declared.host.Failed.{Failed}
use Rattle.host_api.specs.declared.source.SourceFault.{SourceFault}
use Rattle.host_api.specs.declared.source.SourceFault.TheVariants as fault

-- a count that is one more, up to the last value of a `u64`
abbrev pub one_more : ℕ → ℕ
one_more count = min (count + 1) (2 ^ 64 - 1)

-- A count rose: it is one more, or stands at the last value of a `u64`.
abbrev pub Rises : ℕ → ℕ → Type 0
Rises old new = new ≡ one_more old

-- the count rose where this fault is told, and else stands as it did
pub record RisesAt (fault : Type 0) (old new : ℕ) : Type 0 where
  pub later : old ≤ new
  pub failed : fault → Rises old new
  pub stays : ¬ fault → new ≡ old

-- the count of a device: any error of a call on it is its fault
abbrev pub Counts : {T : Type 0} → Result T Failed → ℕ → ℕ → Type 0
Counts result old new = RisesAt (IsErr result) old new

-- the count of a source, which may also find no memory
abbrev pub SourceCounts : {T : Type 0} → Result T SourceFault → ℕ → ℕ → Type 0
SourceCounts result old new = RisesAt (IsErrOf result fault.Failed) old new

-- the count of the calls that were answered: an error leaves it
abbrev pub CountsAnswered : {T E : Type 0} → Result T E → ℕ → ℕ → Type 0
CountsAnswered (Ok _) old new = Rises old new
CountsAnswered (Err _) old new = new ≡ old
