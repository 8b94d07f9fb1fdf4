-- A durable state in memory, as contracts see it: the tables that hold it, with their room.
use Rattle.std.specs.Prelude.{◌≡◌, ℕ, ◌≤◌, ◌+◌, List, Option, Some, None, refl, if◌then◌else◌}
use Rattle.std.specs.Coded.{Coded, code_by, coded×, coded_option, coded_ℕ}
use Rattle.std.specs.List.{All}
use Rattle.value_model.specs.contracts.timestamp.Timestamp as timestamp
use Rattle.value_model.specs.declared.document.Document.{Document}
use Rattle.value_model.specs.declared.timestamp.Timestamp.{Timestamp}
use Rattle.mutation_queue.specs.Queue.{Queue, queue_code}
use Rattle.remote_documents.specs.Table as remote
use Rattle.target_cache.specs.Cache.{Cache, cache_code}
use Rattle.overlays.specs.Table as overlay
use Rattle.durable_state.specs.Documents.{document_of, is_named}
use Rattle.durable_state.specs.State.{State, most_commits}

pub record Tables : Type 0 where
  pub number : ℕ
  pub next_batch : ℕ
  pub last_read : Option Timestamp
  pub pending : Queue
  pub entries : remote.Table
  pub targets : Cache
  pub overlays : overlay.Table

-- the tables are stored as their fields
abbrev pub tables_code : Coded Tables
tables_code = code_by ((ℕ × (ℕ × Option Timestamp)) × ((Queue × remote.Table) × (Cache × overlay.Table)))
    (coded× (coded× coded_ℕ (coded× coded_ℕ (coded_option timestamp.the_row.coded)))
    (coded× (coded× queue_code remote.table_code) (coded× cache_code overlay.table_code)))
    (λ t. ((t.number, (t.next_batch, t.last_read)), ((t.pending, t.entries), (t.targets, t.overlays))))
    (λ p. record {
      number = p.0.0;
      next_batch = p.0.1.0;
      last_read = p.0.1.1;
      pending = p.1.0.0;
      entries = p.1.0.1;
      targets = p.1.1.0;
      overlays = p.1.1.1;
    }) (λ _. refl)

-- the state that they hold
abbrev pub state_in : Tables → State
state_in t = record {
  number = t.number;
  batches = t.pending.batches;
  next_batch = t.next_batch;
  entries = remote.entries_in t.entries;
  last_read = t.last_read;
  rows = t.targets.rows;
}

-- the overlay that a key of a state has: its local document, where a pending write names it
abbrev pub overlay_for : State → List (List ℕ) → Option (Option Document)
overlay_for s key = if is_named s key then Some (document_of s key) else None

-- each key has its overlay, and no other
abbrev pub AreLaid : State → overlay.Table → Type 0
AreLaid s table = (key : List (List ℕ)) → overlay.overlay_of table key ≡ overlay_for s key

-- What the tables keep: the number and the next id are counted, no path of a pending write is `__name__`, the entries are a
-- finite map, and the overlays are those of the state.
pub record IsKept (t : Tables) : Type 0 where
  pub within : t.number ≤ most_commits
  pub next : t.next_batch ≤ t.number + 1
  pub fields : All overlay.IsBatchOfFields t.pending.batches
  pub map : remote.IsMapOf t.entries
  pub laid : AreLaid (state_in t) t.overlays
