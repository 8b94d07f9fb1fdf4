-- What a point of the stream of listeners commits: the entries that wait and replace what is known, then the documents of
-- targets that lack them, and the rows of targets with a token.
use Rattle.std.specs.Prelude.{◌≡◌, ◌≢◌, ◌⊎◌, ◌↔◌, ◌<◌, ℤ, pos, Bool, true, false, List, [], Option, Some, None, option_map}
use Rattle.std.specs.List.{AllPairs, Contains, find}
use Rattle.document_keys.specs.KeySet.{is_key}
use Rattle.document_keys.specs.Order.{PathBefore}
use Rattle.value_model.specs.declared.document.Entry.{Entry}
use Rattle.value_model.specs.declared.document.Entry.TheVariants.{Missing}
use Rattle.value_model.specs.declared.document.Seal.{Seal}
use Rattle.value_model.specs.declared.document.Seal.TheVariants.{Seen}
use Rattle.value_model.specs.declared.timestamp.Timestamp.{Timestamp}
use Rattle.listen_protocol.specs.Buffer.{buffered}
use Rattle.listen_protocol.specs.Calls.{Key, Calls}
use Rattle.listen_protocol.specs.ToldKeys.{told_keys}
use Rattle.listen_protocol.specs.Transcript.{counts, document_of, is_current_in, token_in}
use Rattle.watch_aggregator.specs.declared.point.WatchPoint.{WatchPoint}
use Rattle.watch_aggregator.specs.declared.point.WatchTarget.{WatchTarget}
use Rattle.watch_aggregator.specs.Points.{IsPointOf}
use Rattle.outcome_codec.specs.declared.parts.KeyedEntry.{KeyedEntry}
use Rattle.outcome_codec.specs.declared.parts.PointRow.{PointRow}
use Rattle.durable_state.specs.Documents.{sealed_entry_of}
use Rattle.durable_state.specs.Rising.{Replaces}
use Rattle.durable_state.specs.Rows.{HasRow}
use Rattle.durable_state.specs.State.{State}

-- the entries and the targets of a point of the calls
abbrev pub ArePartsOf : Calls → List (Key × Entry) → List WatchTarget → Type 0
ArePartsOf h waiting targets =
    (point : WatchPoint) × IsPointOf h point × (point.entries.items ≡ waiting) × (point.targets.items ≡ targets)

-- ---- entries

-- what is known of a key once an entry that the backend told is put, or none is
abbrev pub known_now : Option (Entry × Seal) → Option Entry → Option (Entry × Seal)
known_now known None = known
known_now known (Some entry) = Some (entry, Seen)

-- what is put of the entry that waits: it, where it replaces what is known
abbrev pub Puts : Option (Entry × Seal) → Option Entry → Option Entry → Type 0
Puts known None put = put ≡ None
Puts known (Some entry) put =
    ((put ≡ Some entry) × Replaces known entry) ⊎ ((put ≡ None) × ¬ (Replaces known entry))

-- the key is the document of a target that counts and is CURRENT, and the target wasn't told it
pub record LacksDocument (h : Calls) (key : Key) (t : ℤ) : Type 0 where
  pub counting : counts t h ≡ true
  pub current : is_current_in t h ≡ true
  pub document : document_of t h ≡ Some key
  pub untold : ¬ (Contains (told_keys t h) key)

-- the backend told that there is no document
abbrev pub is_known_missing : Option (Entry × Seal) → Bool
is_known_missing (Some (Missing version, Seen)) = true
is_known_missing _ = false

-- some target lacks its document, which isn't known to be missing by now, and that it is missing at the read time replaces what
-- is known by now
pub record Misses (s : State) (h : Calls) (at : Timestamp) (key : Key) (put : Option Entry) : Type 0 where
  pub lacked : (t : ℤ) × LacksDocument h key t
  pub unknown : is_known_missing (known_now (sealed_entry_of s key) put) ≡ false
  pub replaced : Replaces (known_now (sealed_entry_of s key) put) (Missing at)

-- what the key gets: that it is missing, where some target misses it once the entry that waits is put, or else that entry, if
-- it is put
pub record GetsEntry (s : State) (h : Calls) (at : Timestamp) (key : Key) (got : Option Entry) : Type 0 where
  pub put : Option Entry
  pub puts : Puts (sealed_entry_of s key) (buffered key h) put
  pub then_gets : ((got ≡ Some (Missing at)) × Misses s h at key put) ⊎ ((got ≡ put) × ¬ (Misses s h at key put))

-- the entry of the key among entries
abbrev pub entry_among : List KeyedEntry → Key → Option Entry
entry_among entries key = option_map (λ e. e.entry) (find (λ e. is_key key e.key) entries)

-- ---- rows

-- the row of a target that counts, is CURRENT, has a row, and has a token that came since the last point: the token and the
-- told keys
pub record IsPointRow (s : State) (h : Calls) (row : PointRow) : Type 0 where
  pub known : HasRow s.rows row.id
  pub counting : counts (pos row.id) h ≡ true
  pub current : is_current_in (pos row.id) h ≡ true
  pub token : row.token ≡ token_in (pos row.id) h
  pub some : row.token ≢ []
  pub told : row.keys ≡ told_keys (pos row.id) h

-- ---- the commit

-- each key has the entry that it gets, keys and ids ascend, and the rows are those of the targets that have one
pub record IsPointCommit (s : State) (h : Calls) (at : Timestamp) (entries : List KeyedEntry)
    (rows : List PointRow) : Type 0 where
  pub keys_ascend : AllPairs (λ a b. PathBefore a.key b.key) entries
  pub gets : (key : Key) → GetsEntry s h at key (entry_among entries key)
  pub ids_ascend : AllPairs (λ a b. a.id < b.id) rows
  pub has : (row : PointRow) → Contains rows row ↔ IsPointRow s h row

-- a point has one commit
abbrev pub PointsCommitOnce : Type 0
PointsCommitOnce = (s : State) (h : Calls) (at : Timestamp) (entries others : List KeyedEntry)
    (rows more : List PointRow) → IsPointCommit s h at entries rows → IsPointCommit s h at others more
    → (entries ≡ others) × (rows ≡ more)
