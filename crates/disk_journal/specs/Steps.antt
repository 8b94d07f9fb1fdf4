-- What a call on a journal does to the files.
use Rattle.std.specs.Prelude.{◌≡◌, ℕ, List, [], ◌∷◌, ◌++◌, length, ◌⊎◌, Result, Ok, Err, OnOk, IfOk}
use Rattle.host_api.specs.declared.host.FileId.{FileId}
use Rattle.host_api.specs.declared.host.FileId.TheVariants.{One}
use Rattle.host_api.specs.declared.host.Failed.{Failed}
use Rattle.host_api.specs.Host.{Files, View, Torn, over, IsOnDisk, Spans, Stays, Steps}
use Rattle.disk_journal.specs.File.{AreBlank, Gives}
use Rattle.disk_journal.specs.Place.{Place, IsOpen}
use Rattle.disk_journal.specs.declared.fault.OpenFault.{OpenFault}
use Rattle.disk_journal.specs.declared.fault.OpenFault.TheVariants as fault

-- the piece stands in the file, and on the disk
pub record HasLanded (file : FileId) (at : ℕ) (piece : List ℕ) (old new : View) : Type 0 where
  pub bytes : new.bytes file ≡ over (old.bytes file) at piece
  pub on_disk : IsOnDisk file new

-- a write of a piece, and then a sync
pub record Lands (file : FileId) (at : ℕ) (piece : List ℕ) (result : Result (Unit {0}) Failed) (old new : View) : Type 0 where
  pub done : OnOk result (HasLanded file at piece old new)
  pub steps : Steps file (Torn at (length piece)) old new

-- the files give the payloads, with one more or without it
abbrev pub GivesBeforeOrAfter : ℕ → List (List ℕ) → List ℕ → Files → Type 0
GivesBeforeOrAfter generation payloads payload files = Gives files generation payloads ⊎ Gives files generation (payloads ++ payload ∷ [])

-- An append of a payload: what a read gives, and what a crash now or at any moment of the call may have left, gives
-- the payloads with the new one or without it, and after an `Ok` with it.
pub record Appends (generation : ℕ) (payloads : List (List ℕ)) (payload : List ℕ) (result : Result Place Failed) (old new : View) : Type 0 where
  pub done : IfOk result (λ next. IsOpen next (payloads ++ payload ∷ []) new)
  pub bytes : GivesBeforeOrAfter generation payloads payload new.bytes
  pub crash : (c : Files) → new.may_leave c → GivesBeforeOrAfter generation payloads payload c
  pub time : Spans old new (λ o c. (o ≡ old.out) × GivesBeforeOrAfter generation payloads payload c)

-- both pairs of files give some generation and payloads, the same
abbrev pub GiveSame : Files → Files → Type 0
GiveSame a b = (generation : ℕ) × (payloads : List (List ℕ)) × Gives a generation payloads × Gives b generation payloads

-- An opening: what a crash now or at any moment of the call may have left, it might have left before, or it gives what
-- the files gave as they read. Nothing is written but to a file 0 beside which file 1 is blank too; where one of them isn't
-- blank, nothing of the files changes.
pub record Opens (old new : View) : Type 0 where
  pub bytes : (generation : ℕ) (payloads : List (List ℕ)) → Gives old.bytes generation payloads → Gives new.bytes generation payloads
  pub kept : ¬ AreBlank old.bytes → Stays old new
  pub second : new.bytes One ≡ old.bytes One
  pub crash : (c : Files) → new.may_leave c → old.may_leave c ⊎ GiveSame old.bytes c
  pub time : Spans old new (λ o c. (o ≡ old.out) × (old.may_leave c ⊎ GiveSame old.bytes c))

-- a pair is that of old, or gives the same
abbrev pub IsOrGivesSame : Files → Files → Type 0
IsOrGivesSame old c = ((file : FileId) → c file ≡ old file) ⊎ GiveSame old c

-- The host as the two opening syncs left it: up to then nothing changed, so that a crash left what it might have left
-- before. From then on it leaves what the files read, or what gives the same.
pub record Settled {H : Type 0} (view : H → View) (old new : View) : Type 0 where
  pub host : H
  pub out : (view host).out ≡ old.out
  pub stays : Stays old (view host)
  pub on_disk : (file : FileId) → IsOnDisk file (view host)
  pub time : Spans (view host) new (λ o c. (o ≡ old.out) × IsOrGivesSame old.bytes c)
  pub crash : (c : Files) → new.may_leave c → IsOrGivesSame old.bytes c

-- An opening settles both files first. Only a disk fault may come before that, and nothing changed then.
abbrev pub SettlesFirst : {H T : Type 0} → (H → View) → Result T OpenFault → View → View → Type 0
SettlesFirst view (Ok opened) old new = Settled view old new
SettlesFirst view (Err fault.DiskFault) old new = Stays old new ⊎ Settled view old new
SettlesFirst view (Err (fault.NotAStore file)) old new = Settled view old new
SettlesFirst view (Err fault.NoMemory) old new = Settled view old new
