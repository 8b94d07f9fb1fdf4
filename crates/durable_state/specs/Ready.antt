-- A commit that is made ready: all memory that it needs is taken.
use Rattle.std.specs.Prelude.{◌≡◌, ℕ, ◌+◌, ◌<◌, ◌≤◌, List, [], ◌∷◌, ◌++◌, drop, length, map as each, fold, false, not, IsTrue, Option, Some, None, if◌then◌else◌}
use Rattle.std.specs.List.{All, Contains, filter}
use Rattle.document_keys.specs.KeySet.{is_key}
use Rattle.value_model.specs.declared.document.Document.{Document}
use Rattle.value_model.specs.declared.document.Entry.{Entry}
use Rattle.value_model.specs.declared.document.Seal.{Seal}
use Rattle.value_model.specs.declared.timestamp.Timestamp.{Timestamp}
use Rattle.key_table.specs.Table.{has_key}
use Rattle.mutations.specs.declared.batch.Batch.{Batch}
use Rattle.mutations.specs.declared.write.Write.{Write}
use Rattle.outcome_codec.specs.declared.parts.KeyedEntry.{KeyedEntry}
use Rattle.mutations.specs.Written.{written_key}
use Rattle.mutation_queue.specs.Queue as queue
use Rattle.overlays.specs.LocalDocument.{base_of, local_document}
use Rattle.overlays.specs.Table as overlay
use Rattle.overlays.specs.declared.overlays.Overlay.{Overlay}
use Rattle.remote_documents.specs.Table as remote
use Rattle.target_cache.specs.Cache.{Cache, blank, id_at}
use Rattle.target_cache.specs.Kept.{IsNew}
use Rattle.target_cache.specs.declared.row.Row.{Row}
use Rattle.durable_state.specs.Cached.{Changed, cached, dropped, with_all}
use Rattle.durable_state.specs.Documents.{document_of, is_among, is_named}
use Rattle.durable_state.specs.Rows.{HasRow, blanked, told}
use Rattle.durable_state.specs.State.{State, most_commits}
use Rattle.durable_state.specs.Tables.{Tables, overlay_for, state_in}
use Rattle.durable_state.specs.declared.ready.Ready.{Ready}
use Rattle.durable_state.specs.declared.ready.Step.{Step}
use Rattle.durable_state.specs.declared.relaying.Relaid.{Relaid}
use Rattle.durable_state.specs.declared.ready.Step.TheVariants.{Enqueue, Settle, Allocate, Tell, Blank}

-- ---- what it makes of a state

abbrev pub batches_by : List Batch → Step → List Batch
batches_by batches (Enqueue batch) = batches ++ batch ∷ []
batches_by batches Settle = drop 1 batches
batches_by batches _ = batches

abbrev pub next_by : ℕ → Step → ℕ
next_by next (Enqueue batch) = next + 1
next_by next _ = next

abbrev pub last_read_by : Option Timestamp → Step → Option Timestamp
last_read_by last (Tell at rows) = Some at
last_read_by last _ = last

abbrev pub rows_by : List Row → Step → List Row
rows_by rows (Allocate target) = rows ++ blank target ∷ []
rows_by rows (Tell at told_rows) = told at told_rows.items rows
rows_by rows (Blank ids) = blanked ids.items rows
rows_by rows _ = rows

-- an entry that is put with this seal, as a change of the cache
abbrev pub put_change : Seal → KeyedEntry → Changed
put_change seal c = (c.key, Some (c.entry, seal))

-- entries that are put with one seal
abbrev pub put_changes : Seal → List KeyedEntry → List Changed
put_changes seal changes = each (put_change seal) changes

-- all that it changes in the cache
abbrev pub changes_of : Ready → List Changed
changes_of ready = put_changes ready.seal ready.changes.items ++ dropped ready.dropped

-- the state after the step and the changes
abbrev pub moved : State → Step → List Changed → State
moved s step changes = record {
  number = s.number + 1;
  batches = batches_by s.batches step;
  next_batch = next_by s.next_batch step;
  entries = with_all s.entries changes;
  last_read = last_read_by s.last_read step;
  rows = rows_by s.rows step;
}

abbrev pub state_by : State → Ready → State
state_by s ready = moved s ready.step (changes_of ready)

-- ---- the room that it needs

-- there is room for what the step adds, and its rows are there
abbrev pub HasRoomFor : queue.Queue → Cache → Step → Type 0
HasRoomFor pending targets (Enqueue batch) = queue.HasRoom pending batch.writes × overlay.IsBatchOfFields batch
HasRoomFor pending targets Settle = Unit {0}
HasRoomFor pending targets (Allocate target) =
    (0 < targets.spare) × (id_at (length targets.rows) ≤ 2147483646) × IsNew targets.rows target
HasRoomFor pending targets (Tell at rows) = All (λ row. HasRow targets.rows row.id) rows.items
HasRoomFor pending targets (Blank ids) = All (HasRow targets.rows) ids.items

-- each entry that is changed has a place
abbrev pub HavePlaces : remote.Table → List KeyedEntry → Type 0
HavePlaces table changes = All (λ (c : KeyedEntry). IsTrue (has_key table c.key)) changes

-- the keys with that of a write, unless it is there
abbrev pub with_first : List (List (List ℕ)) → Write → List (List (List ℕ))
with_first keys write = keys ++ (if is_among keys (written_key write) then [] else written_key write ∷ [])

-- the keys of some writes, each once, where it comes first
abbrev pub first_keys : List Write → List (List (List ℕ))
first_keys writes = fold with_first [] writes

-- each change is one of these keys
abbrev pub AreOf : List (List (List ℕ)) → List KeyedEntry → Type 0
AreOf keys changes = All (λ (c : KeyedEntry). Contains keys c.key) changes

-- ---- the overlays

-- the overlay of a key after others were put in place
abbrev pub put_over : List (List ℕ) → Option (Option Document) → List Overlay
    → Option (Option Document)
put_over key found overlays =
    fold (λ now o. if is_key o.key key then Some o.document else now) found overlays

-- and after some were taken away
abbrev pub lift_over : List (List ℕ) → Option (Option Document) → List (List (List ℕ))
    → Option (Option Document)
lift_over key found keys = if is_among keys key then None else found

-- The overlays lay a new state: each is that of a key that a pending write names then, those taken away are of keys that none
-- names any more, and every other key has the overlay that it had.
pub record LaysAnew (old new : State) (overlays : List Overlay) (lifted : List (List (List ℕ))) : Type 0 where
  pub named : All (λ o. IsTrue (is_named new o.key)) overlays
  pub right : All (λ o. o.document ≡ document_of new o.key) overlays
  pub unnamed : All (λ key. is_named new key ≡ false) lifted
  pub others : (key : List (List ℕ)) → is_among (each (λ o. o.key) overlays) key ≡ false
      → is_among lifted key ≡ false → overlay_for new key ≡ overlay_for old key

-- for each of the keys, in their order, an overlay of which this holds, and which has a place in the table
pub record LaysKeys (table : overlay.Table) (Right : Overlay → Type 0) (keys : List (List (List ℕ)))
    (overlays : List Overlay) : Type 0 where
  pub of_keys : each (λ o. o.key) overlays ≡ keys
  pub right : All Right overlays
  pub places : All (λ o. IsTrue (has_key table o.key)) overlays

-- it has this document of its key
abbrev pub HasDocument : (List (List ℕ) → Option Document) → Overlay → Type 0
HasDocument document o = o.document ≡ document o.key

-- its document is that of the batches over the new entry of a change
pub record IsOver (batches : List Batch) (changes : List KeyedEntry) (o : Overlay) : Type 0 where
  pub change : KeyedEntry
  pub one : Contains changes change
  pub of_key : o.key ≡ change.key
  pub document : o.document ≡ local_document change.key (base_of (Some change.entry)) batches

-- of the keys that writes name, those that batches name as well
abbrev pub keys_still_named : List Batch → List Write → List (List (List ℕ))
keys_still_named batches writes = filter (is_among (queue.named_keys batches)) (first_keys writes)

-- and those that no batch names
abbrev pub keys_named_no_more : List Batch → List Write → List (List (List ℕ))
keys_named_no_more batches writes =
    filter (λ key. not (is_among (queue.named_keys batches) key)) (first_keys writes)

-- the overlays of the former, over the entries that the changes leave, whatever seal these get
abbrev pub LaysStillNamed : overlay.Table → remote.EntryMap → List KeyedEntry → List Batch → List Write
    → List Overlay → Type 0
LaysStillNamed table entries changes batches writes overlays = (seal : Seal) → LaysKeys table
    (HasDocument (λ key. local_document key
    (base_of (cached (with_all entries (put_changes seal changes)) key)) batches))
    (keys_still_named batches writes) overlays

-- a key that the batches name got an overlay over the entry, with a place; any other one is taken away
pub data Settles (table : overlay.Table) (batches : List Batch) (key : List (List ℕ)) (entry : Option Entry)
    (old new : Relaid) : Type 0 where
  laid : (o : Overlay) → IsTrue (is_among (queue.named_keys batches) key)
      → new.lifted.items ≡ old.lifted.items
      → new.laid.items ≡ old.laid.items ++ o ∷ [] → o.key ≡ key
      → o.document ≡ local_document key (base_of entry) batches → IsTrue (has_key table key)
      → Settles table batches key entry old new
  lifted : is_among (queue.named_keys batches) key ≡ false → new.laid.items ≡ old.laid.items
      → new.lifted.items ≡ old.lifted.items ++ key ∷ [] → Settles table batches key entry old new

-- all that applying it needs
pub record IsReady (t : Tables) (ready : Ready) : Type 0 where
  pub number : t.number < most_commits
  pub room : HasRoomFor t.pending t.targets ready.step
  pub entries : HavePlaces t.entries ready.changes.items
  pub places : All (λ o. IsTrue (has_key t.overlays o.key)) ready.overlays.items
  pub lays : LaysAnew (state_in t) (state_by (state_in t) ready) ready.overlays.items ready.lifted.items
