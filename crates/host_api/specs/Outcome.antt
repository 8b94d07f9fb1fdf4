-- How a call of a host in memory went.
use Rattle.std.specs.Prelude.{◌≡◌, ℕ, Bool, true, false, List, Result, Ok, Err, ◌⊎◌}
use Rattle.host_api.specs.Counts.{Rises}
use Rattle.host_api.specs.Memory.{Memory, Worked, Missed, Starves}
use Rattle.host_api.specs.Past.{Step}
use Rattle.host_api.specs.declared.host.Failed.{Failed}
use Rattle.host_api.specs.declared.memory_host.Outcome.{Outcome}
use Rattle.host_api.specs.declared.memory_host.Outcome.TheVariants.{Done, Failing, Starved}

-- what the call did, and why it went so
abbrev pub Tried : (Bool → List Step) → Type 0 → Outcome → Memory → Memory → Type 0
Tried steps refused Done old new = Worked (steps true) refused old new
Tried steps refused Failing old new = Missed (steps false) refused old new
Tried steps refused Starved old new = Starves (steps false) refused old new

-- what only a fault changes stays, and the call was counted
pub record Counted (old new : Memory) : Type 0 where
  pub number : Rises old.past.calls new.past.calls
  pub failing : new.failing ≡ old.failing
  pub starved : new.starved ≡ old.starved
  pub sink_faults : new.sink_faults ≡ old.sink_faults
  pub disk_faults : new.disk_faults ≡ old.disk_faults

-- the number of calls that found no memory
abbrev pub StarvedBy : Outcome → ℕ → ℕ → Type 0
StarvedBy Done old new = new ≡ old
StarvedBy Failing old new = new ≡ old
StarvedBy Starved old new = Rises old new

-- the answer of a call that went so
abbrev pub Answers : Outcome → Result (Unit {0}) Failed → Type 0
Answers outcome (Ok done) = outcome ≡ Done
Answers outcome (Err failed) = (outcome ≡ Failing) ⊎ (outcome ≡ Starved)

-- the fault was counted, and the rest stays
pub record Settled (outcome : Outcome) (result : Result (Unit {0}) Failed) (old new : Memory) : Type 0 where
  pub past : new.past ≡ old.past
  pub failing : new.failing ≡ old.failing
  pub starved : StarvedBy outcome old.starved new.starved
  pub answer : Answers outcome result
