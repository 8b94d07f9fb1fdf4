-- Commits as bytes.
use Rattle.std.specs.Prelude.{ℕ, ◌<◌, ◌^◌, List, ◌∷◌, ◌++◌}
use Rattle.value_model.specs.Time.{IsMoment}
use Rattle.mutations.specs.declared.batch.Batch.{Batch}
use Rattle.mutations.specs.declared.results.WriteResult.{WriteResult}
use Rattle.value_model.specs.declared.timestamp.Timestamp.{Timestamp}
use Rattle.record_parts.specs.Spelling.{number, time, key, many, write, AreSpelled, IsSpelledWrite}
use Rattle.outcome_codec.specs.declared.parts.KeyedEntry.{KeyedEntry}
use Rattle.outcome_codec.specs.declared.parts.PointRow.{PointRow}
use Rattle.outcome_codec.specs.Spelling.{result, keyed, row, target_id, AreSpelledEntries, AreSpelledIds, AreSpelledKeys, AreSpelledRows, IsSpelledId, IsSpelledResult}
use Rattle.target_codec.specs.Spelling.{target, IsSpelledTarget}
use Rattle.record_codec.specs.declared.commit.Commit.{Commit}
use Rattle.record_codec.specs.declared.commit.Commit.TheVariants.{Enqueue, Acknowledge, Reject, Allocate, Point, Reset, Drop}

-- its id, its local write time, and the list of its writes
unfoldable pub batch : Batch → List ℕ
batch b = number b.id ++ (time b.at ++ many write b.writes)

-- A byte for the kind of commit, and its members: a batch; the id of a batch, the time of its commit and its results; the id of
-- a batch; the id of a target, and the target; the read time, entries and rows; ids; or keys and ids.
unfoldable pub step : Commit → List ℕ
step (Enqueue b) = 1 ∷ batch b
step (Acknowledge b at results) = 2 ∷ (number b ++ (time at ++ many result results))
step (Reject b) = 3 ∷ number b
step (Allocate id t) = 4 ∷ (target_id id ++ target t)
step (Point at entries rows) = 5 ∷ (time at ++ (many keyed entries ++ many row rows))
step (Reset ids) = 6 ∷ many target_id ids
step (Drop keys ids) = 7 ∷ (many key keys ++ many target_id ids)

-- 1 for the format, and what is committed
unfoldable pub spelling : Commit → List ℕ
spelling c = 1 ∷ step c

-- a batch that has a spelling: its id fits eight bytes, and its time is one of the years 1 to 9999
pub record IsSpelledBatch (b : Batch) : Type 0 where
  pub id : b.id < 2 ^ 64
  pub at : IsMoment b.at
  pub writes : AreSpelled IsSpelledWrite b.writes

-- results of a batch that have a spelling
pub record IsSpelledAcknowledgement (b : ℕ) (at : Timestamp) (results : List WriteResult) : Type 0 where
  pub id : b < 2 ^ 64
  pub moment : IsMoment at
  pub each : AreSpelled IsSpelledResult results

-- entries and rows of a point that have a spelling
pub record IsSpelledPoint (at : Timestamp) (entries : List KeyedEntry) (rows : List PointRow) : Type 0 where
  pub moment : IsMoment at
  pub seen : AreSpelledEntries entries
  pub held : AreSpelledRows rows

-- what has a spelling
abbrev pub HasSpelling : Commit → Type 0
HasSpelling (Enqueue b) = IsSpelledBatch b
HasSpelling (Acknowledge b at results) = IsSpelledAcknowledgement b at results
HasSpelling (Reject b) = b < 2 ^ 64
HasSpelling (Allocate id t) = IsSpelledId id × IsSpelledTarget t
HasSpelling (Point at entries rows) = IsSpelledPoint at entries rows
HasSpelling (Reset ids) = AreSpelledIds ids
HasSpelling (Drop keys ids) = AreSpelledKeys keys × AreSpelledIds ids
