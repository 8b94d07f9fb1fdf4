-- An open store, as contracts see it.
use Rattle.std.specs.Prelude.{◌≡◌, ℕ, List, Option, None, refl}
use Rattle.std.specs.Coded.{Coded, code_by, coded×, coded_list, coded_option, coded_ℕ}
use Rattle.std.specs.FinMap as finite
use Rattle.std.specs.Option.{ForSome}
use Rattle.host_api.specs.Host.{Files, View}
use Rattle.disk_journal.specs.Place.{Place, IsOpen}
use Rattle.disk_journal.specs.contracts.journal.Journal as journal
use Rattle.value_model.specs.contracts.document.Entry as entry
use Rattle.value_model.specs.contracts.document.Seal as seal
use Rattle.value_model.specs.contracts.timestamp.Timestamp as timestamp
use Rattle.value_model.specs.declared.timestamp.Timestamp.{Timestamp}
use Rattle.mutations.specs.contracts.batch.Batch as batch
use Rattle.mutations.specs.declared.batch.Batch.{Batch}
use Rattle.remote_documents.specs.Table.{EntryMap}
use Rattle.target_cache.specs.contracts.row.Row as row
use Rattle.target_cache.specs.declared.row.Row.{Row}
use Rattle.local_store.specs.State.{State, LeadsTo}
use Rattle.local_store.specs.Files.{FindsState}

-- the state, and where the journal stands, which a spent store has no more
pub record Store : Type 0 where
  pub state : State
  pub place : Option Place

-- the store is stored as its fields
abbrev pub state_code : Coded State
state_code = code_by ((ℕ × (List Batch × ℕ)) × (EntryMap × (Option Timestamp × List Row)))
    (coded× (coded× coded_ℕ (coded× (coded_list batch.the_row.coded) coded_ℕ))
    (coded× (finite.code (coded_list (coded_list coded_ℕ)) (coded× entry.the_row.coded seal.the_row.coded))
    (coded× (coded_option timestamp.the_row.coded) (coded_list row.the_row.coded))))
    (λ s. ((s.number, (s.batches, s.next_batch)), (s.entries, (s.last_read, s.rows))))
    (λ p. record {
      number = p.0.0;
      batches = p.0.1.0;
      next_batch = p.0.1.1;
      entries = p.1.0;
      last_read = p.1.1.0;
      rows = p.1.1.1;
    }) (λ _. refl)

abbrev pub store_code : Coded Store
store_code = code_by (State × Option Place)
    (coded× state_code (coded_option journal.the_row.coded))
    (λ s. (s.state, s.place)) (λ p. record { state = p.0; place = p.1 }) (λ _. refl)

-- a commit met a disk fault, and nothing is written any more
abbrev pub IsSpent : Store → Type 0
IsSpent store = store.place ≡ None

-- a journal is open over the files, and its payloads lead to the state
pub record IsOver (s : State) (v : View) (place : Place) : Type 0 where
  pub payloads : List (List ℕ)
  pub open_with : IsOpen place payloads v
  pub leads : LeadsTo place.generation payloads s

-- the store's journal is open over these files, unless the store is spent, and its payloads lead to
-- the store's state
abbrev pub IsStored : Store → View → Type 0
IsStored store v = ForSome store.place (IsOver store.state v)

-- whatever a crash may leave of these files finds the state, and so does what they read
pub record IsFoundIn (s : State) (v : View) : Type 0 where
  pub crash : (c : Files) → v.may_leave c → FindsState c s
  pub reads : FindsState v.bytes s
