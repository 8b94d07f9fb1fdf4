-- What the bytes of one file are, part by part.
use Rattle.std.specs.Prelude.{◌≡◌, ◌≢◌, ℕ, ◌^◌, ◌≤◌, ◌<◌, List, ◌++◌, length, slice_index, ◌⊎◌}
use Rattle.disk_journal.specs.declared.reading.Records.{Records}
use Rattle.disk_journal.specs.declared.reading.Blank.{Blank}
use Rattle.disk_journal.specs.declared.reading.Blank.TheVariants as blank
use Rattle.disk_journal.specs.declared.reading.Reading.{Reading}
use Rattle.disk_journal.specs.declared.reading.Reading.TheVariants as found
use Rattle.disk_journal.specs.declared.entry.Entry.{Entry}
use Rattle.disk_journal.specs.declared.entry.Entry.TheVariants as entry
use Rattle.disk_journal.specs.File.{record_of, IsFile, IsForeign}
use Rattle.disk_journal.specs.Parts.{IsRecords, IsShut}

-- the first entry of the bytes behind a header or a record
abbrev pub IsEntry : Entry → List ℕ → Type 0
IsEntry (entry.Open payload behind) bytes = (length payload.now < 2 ^ 64) × (bytes ≡ record_of payload.now ++ behind.now)
IsEntry entry.Shut bytes = IsShut bytes
IsEntry entry.Broken bytes = (payloads : List (List ℕ)) → ¬ IsRecords payloads bytes

-- a file with no byte, or less than a header behind an open gate; a file that begins with a closed gate
abbrev pub IsBlankAs : Blank → List ℕ → Type 0
IsBlankAs blank.Bare file = (length file < 16) × ((length file ≡ 0) ⊎ (slice_index file 0 ≡ 1))
IsBlankAs blank.Closed file = (1 ≤ length file) × (slice_index file 0 ≢ 1)

abbrev pub IsReading : Reading → List ℕ → Type 0
IsReading (found.Blank b) file = IsBlankAs b file
IsReading (found.Records r) file = IsFile r.generation r.payloads r.end file
IsReading found.Foreign file = IsForeign file

-- each record takes some bytes, and the last ends within the bounds of a host
pub record AreWithin (r : Records) : Type 0 where
  pub many : length r.payloads ≤ r.end
  pub far : r.end ≤ 2 ^ 62

abbrev pub IsWithin : Reading → Type 0
IsWithin (found.Blank b) = Unit {0}
IsWithin (found.Records r) = AreWithin r
IsWithin found.Foreign = Unit {0}
