-- Clause *Causes*: when each answer of a run comes.
use Rattle.std.specs.Prelude.{◌≡◌, ◌⊎◌, ℕ, ◌<◌, List, length, IsTrue, Bool}
use Rattle.host_api.specs.Counts.{Rises, RisesAt}
use Rattle.host_api.specs.declared.host.FileId.{FileId}
use Rattle.host_api.specs.Host.{View, Stays}
use Rattle.host_api.specs.Items.{Item}
use Rattle.client_run.specs.Crash.{Keeps}
use Rattle.local_store.specs.Files.{IsRefused, IsNoStore}
use Rattle.client_run.specs.declared.status.Status.{Status}
use Rattle.client_run.specs.declared.status.Status.TheVariants as ended

-- Each count rose just where the run ended with its fault: that of the source, that of the disk and
-- that of the output.
pub record Causes (status : Status) (before after : ℕ) (old new : View) : Type 0 where
  pub source : RisesAt (status ≡ ended.SourceFault) before after
  pub disk : RisesAt (status ≡ ended.DiskFault) old.disk_faults new.disk_faults
  pub sink : RisesAt (status ≡ ended.SinkFault) old.sink_faults new.sink_faults

-- no count of faults rose
pub record NoFaults (before after : ℕ) (old new : View) : Type 0 where
  pub source : ¬ Rises before after
  pub disk : ¬ Rises old.disk_faults new.disk_faults
  pub sink : ¬ Rises old.sink_faults new.sink_faults

-- A run over files that are a store's, of fewer items than the budget, in which no count of faults
-- rose, comes to the end of its source, or to want of memory.
abbrev pub Completes : List Item → ℕ → Status → ℕ → ℕ → View → View → Type 0
Completes items budget status before after old new =
    Keeps old → length items < budget → NoFaults before after old new
    → (status ≡ ended.Done) ⊎ (status ≡ ended.NoMemory)

-- the files are no store; nothing was written, and nothing of the files changed
pub record IsForeign (tells_files : Bool) (old new : View) : Type 0 where
  pub refused : IsTrue tells_files → (file : FileId) × IsRefused file old.bytes
  pub no_store : IsTrue tells_files → IsNoStore old.bytes
  pub stays : IsTrue tells_files → Stays old new
  pub out : new.out ≡ old.out

-- what a run over files that are no store answers
abbrev pub IsRefusal : Status → Type 0
IsRefusal ended.NotAStore = Unit {0}
IsRefusal ended.DiskFault = Unit {0}
IsRefusal ended.NoMemory = Unit {0}
IsRefusal _ = ⊥

-- A run over files that are no store: whatever it answers, nothing was written, and a crash leaves
-- no pair of files that it couldn't leave before.
pub record LeavesForeign (status : Status) (old new : View) : Type 0 where
  pub answer : IsRefusal status
  pub stays : Stays old new
  pub out : new.out ≡ old.out

-- what a run answers after its store was opened
abbrev pub IsServed : Status → Type 0
IsServed ended.Usage = ⊥
IsServed ended.NotAStore = ⊥
IsServed _ = Unit {0}
