-- The past of a host in memory: what its files were at first, and what its calls did since.
use Rattle.std.specs.Prelude.{◌≡◌, ℕ, ◌+◌, ◌≤◌, nat_le, Bool, List, [], ◌∷◌, ◌++◌, if◌then◌else◌}
use Rattle.std.specs.List.{flat_map}
use Rattle.host_api.specs.declared.host.FileId.{FileId}
use Rattle.host_api.specs.declared.host.FileId.TheVariants.{Zero, One}
use Rattle.host_api.specs.Host.{Files, View}
use Rattle.host_api.specs.Disk.{Disk, IsImage, fresh, written, shortened}

-- What a call did or tried: appended these bytes to the output, wrote these bytes at this offset, cut to this length, or synced.
pub data Step : Type 0 where
  emit : List ℕ → Step
  write : FileId → ℕ → List ℕ → Bool → Step
  cut : FileId → ℕ → Bool → Step
  sync : FileId → Step

-- a step, and the number of its call, from 1
pub record Note : Type 0 where
  pub number : ℕ
  pub step : Step

pub record Past : Type 0 where
  -- the first contents of the files
  pub zero : List ℕ
  pub one : List ℕ
  -- the steps; a call that did nothing has none
  pub notes : List Note
  -- how many calls there were
  pub calls : ℕ

abbrev pub first : FileId → Past → List ℕ
first Zero past = past.zero
first One past = past.one

-- the steps of the first k calls
abbrev pub upto : ℕ → List Note → List Step
upto k [] = []
upto k (note ∷ notes) = if nat_le note.number k then note.step ∷ upto k notes else upto k notes

abbrev pub emitted : Step → List ℕ
emitted (emit piece) = piece
emitted (write file at piece done) = []
emitted (cut file len done) = []
emitted (sync file) = []

-- the output after these steps
abbrev pub out_of : List Step → List ℕ
out_of steps = flat_map emitted steps

-- the first disk if the files are the same, else the second
abbrev pub here : FileId → FileId → Disk → Disk → Disk
here Zero Zero this that = this
here Zero One this that = that
here One Zero this that = that
here One One this that = this

-- a file after one step
abbrev pub after : FileId → Step → Disk → Disk
after file (emit piece) disk = disk
after file (write on at piece done) disk = here file on (written at piece done disk) disk
after file (cut on len done) disk = here file on (shortened len done disk) disk
after file (sync on) disk = here file on (fresh disk.bytes) disk

abbrev pub run : FileId → Disk → List Step → Disk
run file disk [] = disk
run file disk (step ∷ steps) = run file (after file step disk) steps

-- a file after the first k calls
abbrev pub disk_at : FileId → ℕ → Past → Disk
disk_at file k past = run file (fresh (first file past)) (upto k past.notes)

-- the output after the first k calls
abbrev pub output_at : ℕ → Past → List ℕ
output_at k past = out_of (upto k past.notes)

-- a crash after the first k calls may leave these files
abbrev pub MayLeave : Past → ℕ → Files → Type 0
MayLeave past k files = (file : FileId) → IsImage (disk_at file k past) (files file)

-- a host with this past, as its contracts see it
abbrev pub view_of : Past → ℕ → ℕ → View
view_of past sink_faults disk_faults = record {
  out = output_at past.calls past;
  bytes = λ file. (disk_at file past.calls past).bytes;
  may_leave = MayLeave past past.calls;
  moment = past.calls;
  left_since = λ t out files. (k : ℕ) × (t ≤ k) × (k ≤ past.calls) × (out ≡ output_at k past) × MayLeave past k files;
  sink_faults = sink_faults;
  disk_faults = disk_faults;
}

-- the past went on by at most one call, which made these steps
pub record Grows (added : List Step) (old new : Past) : Type 0 where
  pub zero : new.zero ≡ old.zero
  pub one : new.one ≡ old.one
  pub later : old.calls ≤ new.calls
  pub most : new.calls ≤ old.calls + 1
  pub before : (k : ℕ) → k ≤ old.calls → upto k new.notes ≡ upto k old.notes
  pub now : upto new.calls new.notes ≡ upto old.calls old.notes ++ added
