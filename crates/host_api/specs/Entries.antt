-- The list of calls, as it is kept.
use Rattle.std.specs.Prelude.{◌≡◌, ℕ, ◌+◌, ◌^◌, ◌<◌, ◌≤◌, List, length, All, map}
use Rattle.host_api.specs.Host.{Files}
use Rattle.host_api.specs.Past.{Step, emit, write, cut, sync, Note, Past, disk_at, output_at}
use Rattle.host_api.specs.declared.host.FileId.TheVariants.{Zero, One}
use Rattle.host_api.specs.declared.log.Step.{Step as Kept}
use Rattle.host_api.specs.declared.log.Step.TheVariants.{Emit, Write, Cut, Sync}
use Rattle.host_api.specs.declared.log.Entry.{Entry}

abbrev pub step_of : Kept → Step
step_of (Emit piece) = emit piece.items
step_of (Write file at piece done) = write file at piece.items done
step_of (Cut file len done) = cut file len done
step_of (Sync file) = sync file

abbrev pub note_of : Entry → Note
note_of entry = record { number = entry.number; step = step_of entry.step }

abbrev pub notes_of : List Entry → List Note
notes_of entries = map note_of entries

-- a write ends below 2^64
abbrev pub EndsWithin : Step → Type 0
EndsWithin (emit piece) = Unit {0}
EndsWithin (write file at piece done) = at + length piece < 2 ^ 64
EndsWithin (cut file len done) = Unit {0}
EndsWithin (sync file) = Unit {0}

-- What is kept beside the past: the output and the files as they read now. No call has a number above their count,
-- and each write ends below 2^64.
pub record IsKept (past : Past) (files : Files) (out : List ℕ) : Type 0 where
  pub numbered : All (λ note. note.number ≤ past.calls) past.notes
  pub within : All (λ note. EndsWithin note.step) past.notes
  pub zero : files Zero ≡ (disk_at Zero past.calls past).bytes
  pub one : files One ≡ (disk_at One past.calls past).bytes
  pub output : out ≡ output_at past.calls past
