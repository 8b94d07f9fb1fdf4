-- A host in memory, as its contracts see it.
use Rattle.std.specs.Prelude.{◌≡◌, ℕ, ◌+◌, ◌-◌, ◌^◌, ◌<◌, Bool, true, false, List, [], length, Contains, Result, OnOk, OnErr, ◌⊎◌}
use Rattle.host_api.specs.Counts.{Rises}
use Rattle.host_api.specs.Host.{Files, View}
use Rattle.host_api.specs.Past.{Past, Step, Grows, view_of}
use Rattle.host_api.specs.declared.host.Failed.{Failed}
use Rattle.host_api.specs.declared.host.FileId.TheVariants.{Zero, One}

pub record Memory : Type 0 where
  -- the files at first, and what the calls did
  pub past : Past
  -- the numbers of the calls that fail
  pub failing : List ℕ
  -- how many calls found no memory
  pub starved : ℕ
  pub sink_faults : ℕ
  pub disk_faults : ℕ

-- the output, the files and what a crash may leave
abbrev pub host_view : Memory → View
host_view memory = view_of memory.past memory.sink_faults memory.disk_faults

-- the next call is one of those that fail
abbrev pub IsListed : Memory → Type 0
IsListed memory = Contains memory.failing (memory.past.calls + 1)

-- no number is left for a further call, which fails therefore
abbrev pub IsFull : Memory → Type 0
IsFull memory = memory.past.calls ≡ 2 ^ 64 - 1

-- a host of which no call was made, over these files: a crash leaves just them
pub record IsFresh (file0 file1 listed : List ℕ) (memory : Memory) : Type 0 where
  pub out : (host_view memory).out ≡ []
  pub zero : (host_view memory).bytes Zero ≡ file0
  pub one : (host_view memory).bytes One ≡ file1
  pub crash : (files : Files) → (host_view memory).may_leave files → (files Zero ≡ file0) × (files One ≡ file1)
  pub moment : (host_view memory).moment ≡ 0
  pub failing : memory.failing ≡ listed
  pub starved : memory.starved ≡ 0
  pub sink_faults : memory.sink_faults ≡ 0
  pub disk_faults : memory.disk_faults ≡ 0

-- The call was done, and made these steps: it isn't one of those that fail, and wasn't refused.
abbrev pub Worked : List Step → Type 0 → Memory → Memory → Type 0
Worked steps refused old new = (IsListed old → ⊥) × (refused → ⊥) × Grows steps old.past new.past

-- The call failed though there was memory. It is one of those that fail, and made these steps, which a crash may tear; or
-- it was refused, or its number would be above the last one, and it made none.
abbrev pub Missed : List Step → Type 0 → Memory → Memory → Type 0
Missed steps refused old new = (IsListed old × Grows steps old.past new.past) ⊎ ((refused ⊎ IsFull old) × Grows [] old.past new.past)

-- The call found no memory, and did nothing. It wasn't refused; and one of those that fail needs memory only for its steps.
abbrev pub Starves : List Step → Type 0 → Memory → Memory → Type 0
Starves steps refused old new = (refused → ⊥) × (IsFull old → ⊥) × (IsListed old → 0 < length steps) × Grows [] old.past new.past

-- why a call failed: the number of those that found no memory rose by one just where it is one of them
abbrev pub Blames : List Step → Type 0 → Memory → Memory → Type 0
Blames steps refused old new = ((new.starved ≡ old.starved) × Missed steps refused old new) ⊎ (Rises old.starved new.starved × Starves steps refused old new)

-- When a call fails that may be refused for this cause, and what it does: the steps are those of a call that was done and
-- of one that failed.
pub record Explains {T : Type 0} (steps : Bool → List Step) (refused : Type 0) (result : Result T Failed) (old new : Memory) : Type 0 where
  pub ok : OnOk result ((new.starved ≡ old.starved) × Worked (steps true) refused old new)
  pub err : OnErr result (Blames (steps false) refused old new)
  pub number : Rises old.past.calls new.past.calls
  pub failing : new.failing ≡ old.failing
