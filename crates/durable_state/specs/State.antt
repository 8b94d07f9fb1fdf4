-- The durable state of a client, which commits fit it, and what each does to it.
use Rattle.std.specs.Prelude.{◌≡◌, ℕ, ◌+◌, ◌<◌, ◌≤◌, List, [], ◌∷◌, ◌++◌, drop, length, Option, Some, None}
use Rattle.std.specs.FinMap as finite
use Rattle.std.specs.List.{All, Contains}
use Rattle.value_model.specs.Order.{Earlier}
use Rattle.value_model.specs.declared.timestamp.Timestamp.{Timestamp}
use Rattle.mutations.specs.Results.{FitsWrites}
use Rattle.mutations.specs.declared.batch.Batch.{Batch}
use Rattle.mutations.specs.declared.results.WriteResult.{WriteResult}
use Rattle.outcome_codec.specs.declared.parts.PointRow.{PointRow}
use Rattle.queries.specs.declared.target.Target.{Target}
use Rattle.record_codec.specs.declared.commit.Commit.{Commit}
use Rattle.record_codec.specs.declared.commit.Commit.TheVariants.{Enqueue, Acknowledge, Reject, Allocate, Point, Reset, Drop}
use Rattle.remote_documents.specs.Table.{EntryMap}
use Rattle.target_cache.specs.Cache.{blank, id_at}
use Rattle.target_cache.specs.Kept.{IsNew}
use Rattle.target_cache.specs.declared.row.Row.{Row}
use Rattle.durable_state.specs.Cached.{Changed, acknowledged_keys, dropped, first_writes, seen_at, with_all}
use Rattle.durable_state.specs.Rows.{HasRow, IsHeld, blanked, told}

-- The number of commits, the pending batches in order and the id of the next one, the entries of the cache with their seals, the
-- last read time, and the rows of the targets in the order of their ids, which are 2, 4, 6 and so on.
pub record State : Type 0 where
  pub number : ℕ
  pub batches : List Batch
  pub next_batch : ℕ
  pub entries : EntryMap
  pub last_read : Option Timestamp
  pub rows : List Row

abbrev pub start : State
start = record { number = 0; batches = []; next_batch = 1; entries = finite.empty; last_read = None; rows = [] }

-- the greatest number that a commit may have
abbrev pub most_commits : ℕ
most_commits = 9223372036854775807

-- ---- which commits fit

-- a batch for the next id, of 1 to 500 writes
pub record IsNext (s : State) (batch : Batch) : Type 0 where
  pub id : batch.id ≡ s.next_batch
  pub some : 1 ≤ length batch.writes
  pub most : length batch.writes ≤ 500

-- the id is that of the first pending batch
abbrev pub IsFirst : List Batch → ℕ → Type 0
IsFirst [] id = ⊥
IsFirst (batch ∷ batches) id = batch.id ≡ id

-- the first pending batch has the id, and the results are those of its writes
pub record IsAnswered (batches : List Batch) (id : ℕ) (results : List WriteResult) : Type 0 where
  pub first : IsFirst batches id
  pub fit : FitsWrites (first_writes batches) results

-- the id is the next one, which is left, and no row has the target
pub record IsAllocation (rows : List Row) (id : ℕ) (target : Target) : Type 0 where
  pub next : id ≡ id_at (length rows)
  pub left : id ≤ 2147483646
  pub new : IsNew rows target

-- there was no read time yet, or it isn't later
abbrev pub IsNotBelow : Option Timestamp → Timestamp → Type 0
IsNotBelow None at = Unit {0}
IsNotBelow (Some last) at = ¬ (Earlier at last)

-- the read time isn't below the last one, each id has a row, and no token is empty
pub record IsPointOf (last : Option Timestamp) (at : Timestamp) (rows : List Row)
    (told_rows : List PointRow) : Type 0 where
  pub time : IsNotBelow last at
  pub known : All (λ row. HasRow rows row.id) told_rows
  pub tokens : All (λ row. 0 < length row.token) told_rows

-- each id has a row, and one of these holds something
pub record IsReset (rows : List Row) (ids : List ℕ) : Type 0 where
  pub known : All (HasRow rows) ids
  pub held : (id : ℕ) × Contains ids id × IsHeld rows id

-- there is a key, and each id has a row
pub record IsDrop (rows : List Row) (keys : List (List (List ℕ))) (ids : List ℕ) : Type 0 where
  pub some : 0 < length keys
  pub known : All (HasRow rows) ids

-- the commit suits the state
abbrev pub Suits : State → Commit → Type 0
Suits s (Enqueue batch) = IsNext s batch
Suits s (Acknowledge id at results) = IsAnswered s.batches id results
Suits s (Reject id) = IsFirst s.batches id
Suits s (Allocate id target) = IsAllocation s.rows id target
Suits s (Point at entries rows) = IsPointOf s.last_read at s.rows rows
Suits s (Reset ids) = IsReset s.rows ids
Suits s (Drop keys ids) = IsDrop s.rows keys ids

-- and a number is left for it
abbrev pub Fits : State → Commit → Type 0
Fits s commit = Suits s commit × (s.number < most_commits)

-- ---- what a commit does

-- a batch joins the pending ones, or the first one leaves
abbrev pub batches_after : List Batch → Commit → List Batch
batches_after batches (Enqueue batch) = batches ++ batch ∷ []
batches_after batches (Acknowledge id at results) = drop 1 batches
batches_after batches (Reject id) = drop 1 batches
batches_after batches _ = batches

abbrev pub next_after : ℕ → Commit → ℕ
next_after next (Enqueue batch) = next + 1
next_after next _ = next

-- the entries that it changes
abbrev pub changed_by : State → Commit → List Changed
changed_by s (Acknowledge id at results) = acknowledged_keys s.entries (first_writes s.batches) results at
changed_by s (Point at entries rows) = seen_at entries
changed_by s (Drop keys ids) = dropped keys
changed_by s _ = []

abbrev pub last_read_after : Option Timestamp → Commit → Option Timestamp
last_read_after last (Point at entries rows) = Some at
last_read_after last _ = last

-- a target gets a row that holds nothing; a point's rows hold what it tells; rows are made to hold nothing
abbrev pub rows_after : List Row → Commit → List Row
rows_after rows (Allocate id target) = rows ++ blank target ∷ []
rows_after rows (Point at entries told_rows) = told at told_rows rows
rows_after rows (Reset ids) = blanked ids rows
rows_after rows (Drop keys ids) = blanked ids rows
rows_after rows _ = rows

-- the state after a commit
abbrev pub committed : State → Commit → State
committed s commit = record {
  number = s.number + 1;
  batches = batches_after s.batches commit;
  next_batch = next_after s.next_batch commit;
  entries = with_all s.entries (changed_by s commit);
  last_read = last_read_after s.last_read commit;
  rows = rows_after s.rows commit;
}
