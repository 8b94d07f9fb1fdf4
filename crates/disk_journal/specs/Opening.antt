-- What an opening finds, and why it fails.
use Rattle.std.specs.Prelude.{ℕ, Bool, IsTrue, List, ◌⊎◌, [], ◌∷◌, Result, OnOk, IfOk}
use Rattle.host_api.specs.declared.host.FileId.{FileId}
use Rattle.host_api.specs.declared.host.FileId.TheVariants.{Zero, One}
use Rattle.host_api.specs.declared.host.Failed.{Failed}
use Rattle.host_api.specs.Counts.{Rises}
use Rattle.host_api.specs.Host.{Files, View, IsOnDisk, Stays, Steps, other}
use Rattle.disk_journal.specs.declared.fault.OpenFault.{OpenFault}
use Rattle.disk_journal.specs.declared.fault.OpenFault.TheVariants as fault
use Rattle.disk_journal.specs.declared.reading.Blank.{Blank}
use Rattle.disk_journal.specs.declared.reading.Blank.TheVariants as blank
use Rattle.disk_journal.specs.declared.reading.Reading.{Reading}
use Rattle.disk_journal.specs.declared.choice.Choice.{Choice}
use Rattle.disk_journal.specs.declared.choice.Choice.TheVariants as choice
use Rattle.disk_journal.specs.File.{IsBlank, IsFile, IsBelow, IsFirstForeign}
use Rattle.disk_journal.specs.Place.{Place, IsOpen}
use Rattle.disk_journal.specs.Reading.{IsReading, IsBlankAs, AreWithin}

-- At a disk fault its count rose. Where the host tells its files, the file that is named is the first foreign one. Want
-- of memory has no cause.
abbrev pub IsCause : Bool → OpenFault → View → View → Type 0
IsCause tells fault.DiskFault old new = Rises old.disk_faults new.disk_faults
IsCause tells (fault.NotAStore file) old new = IsTrue tells → IsFirstForeign file old.bytes
IsCause tells fault.NoMemory old new = Unit {0}

-- the same of what only reads: it doesn't judge
abbrev pub IsReadCause : OpenFault → View → View → Type 0
IsReadCause fault.DiskFault old new = Rises old.disk_faults new.disk_faults
IsReadCause (fault.NotAStore file) old new = ⊥
IsReadCause fault.NoMemory old new = Unit {0}

-- both files were brought to the disk
pub record Settles (result : Result (Unit {0}) Failed) (old new : View) : Type 0 where
  pub done : OnOk result ((file : FileId) → IsOnDisk file new)
  pub stays : Stays old new

-- both files as they read, on the disk
pub record Seen (zero one : Reading) (v : View) : Type 0 where
  pub zero_is : IsReading zero (v.bytes Zero)
  pub one_is : IsReading one (v.bytes One)
  pub on_disk : (file : FileId) → IsOnDisk file v

-- which of two files counts, if any
abbrev pub IsChoice : Choice → Files → Type 0
IsChoice (choice.Fresh b) files = IsBlankAs b (files Zero) × IsBlank (files One)
IsChoice (choice.Counting file r) files = IsFile r.generation r.payloads r.end (files file) × IsBelow file r.generation (files (other file))
IsChoice (choice.Foreign file) files = IsFirstForeign file files

abbrev pub IsChoiceWithin : Choice → Type 0
IsChoiceWithin (choice.Fresh b) = Unit {0}
IsChoiceWithin (choice.Counting file r) = AreWithin r
IsChoiceWithin (choice.Foreign file) = Unit {0}

-- both files are blank, file 0 in this way, and on the disk
pub record IsFresh (b : Blank) (v : View) : Type 0 where
  pub zero_is : IsBlankAs b (v.bytes Zero)
  pub one_is : IsBlank (v.bytes One)
  pub on_disk : (file : FileId) → IsOnDisk file v

-- the magic, the generation 1 and a closed gate
abbrev pub fresh_rest : List ℕ
fresh_rest = 70 ∷ 83 ∷ 74 ∷ 82 ∷ 78 ∷ 76 ∷ 49 ∷ 0 ∷ 0 ∷ 0 ∷ 0 ∷ 0 ∷ 0 ∷ 0 ∷ 1 ∷ 0 ∷ []

-- a blank file, or one of generation 1 with no record
abbrev pub IsBlankOrNew : List ℕ → Type 0
IsBlankOrNew file = IsBlank file ⊎ IsFile 1 [] 16 file

-- file 0 begins with a closed gate, on the disk, and was blank all the while
pub record Closes (result : Result (Unit {0}) Failed) (old new : View) : Type 0 where
  pub done : OnOk result (IsBlankAs blank.Closed (new.bytes Zero) × IsOnDisk Zero new)
  pub steps : Steps Zero (λ _ file. IsBlank file) old new

-- file 0 is formatted, and was blank or so all the while
pub record Formats (result : Result Place Failed) (old new : View) : Type 0 where
  pub done : IfOk result (λ place. IsOpen place [] new)
  pub steps : Steps Zero (λ _ file. IsBlankOrNew file) old new
