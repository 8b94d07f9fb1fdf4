-- The state that two files find, which files are no store, and what a call leaves of the files.
use Rattle.std.specs.Prelude.{◌≡◌, ◌⊎◌, ℕ, List}
use Rattle.host_api.specs.declared.host.FileId.{FileId}
use Rattle.host_api.specs.Host.{Files, View, Spans, Stays}
use Rattle.disk_journal.specs.File.{IsForeign, IsFirstForeign, Gives, GoesOn}
use Rattle.disk_journal.specs.declared.fault.OpenFault.{OpenFault}
use Rattle.disk_journal.specs.declared.fault.OpenFault.TheVariants as fault
use Rattle.local_store.specs.State.{State, LeadsTo}

-- two files find the state: their payloads lead to it
pub record FindsState (files : Files) (s : State) : Type 0 where
  pub generation : ℕ
  pub payloads : List (List ℕ)
  pub gives : Gives files generation payloads
  pub leads : LeadsTo generation payloads s

-- two files find at most one state
abbrev pub TwoFilesFindOnce : Type 0
TwoFilesFindOnce = (files : Files) (a b : State)
    → FindsState files a → FindsState files b → a ≡ b

-- From one state to another: what a crash now or at any moment of the call may have left finds the
-- one or the other, and the output stood as it did.
pub record Moves (from to : State) (old new : View) : Type 0 where
  pub crash : (c : Files) → new.may_leave c → FindsState c from ⊎ FindsState c to
  pub time : Spans old new (λ o c. (o ≡ old.out) × (FindsState c from ⊎ FindsState c to))

-- two files that are no store: they find no state
abbrev pub IsNoStore : Files → Type 0
IsNoStore files = (s : State) → FindsState files s → ⊥

-- Why two files are no store. This one is the first that is neither blank nor in the grammar; or
-- each is one of these, this one counts, and its payloads lead to no state.
pub data IsRefused (file : FileId) (files : Files) : Type 0 where
  foreign : IsFirstForeign file files → IsRefused file files
  no_commits : ((each : FileId) → ¬ IsForeign (files each)) → GoesOn files file
      → (generation : ℕ) (payloads : List (List ℕ)) → Gives files generation payloads
      → ((s : State) → LeadsTo generation payloads s → ⊥) → IsRefused file files

-- files that are refused are no store
abbrev pub RefusedFilesAreNoStore : Type 0
RefusedFilesAreNoStore = (file : FileId) (files : Files)
    → IsRefused file files → IsNoStore files

-- a refusal of the files has its cause in them, and changes nothing of them
abbrev pub Refuses : OpenFault → View → View → Type 0
Refuses (fault.NotAStore file) old new = IsRefused file old.bytes × Stays old new
Refuses _ old new = Unit {0}
