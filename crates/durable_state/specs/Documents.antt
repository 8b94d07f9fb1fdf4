-- The documents of a state: what is known of each key, with the pending writes laid on.
use Rattle.std.specs.Prelude.{◌≡◌, ℕ, List, ◌++◌, map, Bool, true, false, Option, Some, None, option_map, if◌then◌else◌}
use Rattle.std.specs.FinMap as finite
use Rattle.std.specs.List.{filter, filter_map, list_any}
use Rattle.document_keys.specs.KeySet.{is_key}
use Rattle.value_model.specs.Documents.{DocumentMap, Stored}
use Rattle.value_model.specs.declared.document.DocState.{DocState}
use Rattle.value_model.specs.declared.document.DocState.TheVariants as stands
use Rattle.value_model.specs.declared.document.Document.{Document}
use Rattle.value_model.specs.declared.document.Entry.{Entry}
use Rattle.value_model.specs.declared.document.Entry.TheVariants.{Unknown}
use Rattle.value_model.specs.declared.document.Seal.{Seal}
use Rattle.value_model.specs.declared.document.Seal.TheVariants.{Seen, Committed}
use Rattle.value_model.specs.declared.timestamp.Timestamp.{Timestamp}
use Rattle.acknowledgements.specs.Acked.{is_earlier}
use Rattle.mutation_queue.specs.Queue.{named_keys}
use Rattle.overlays.specs.LocalDocument.{base_of, local_document}
use Rattle.durable_state.specs.Cached.{cached}
use Rattle.durable_state.specs.State.{State}

-- one of the keys is this one
abbrev pub is_among : List (List (List ℕ)) → List (List ℕ) → Bool
is_among keys key = list_any (λ k. is_key k key) keys

-- a pending write names the key
abbrev pub is_named : State → List (List ℕ) → Bool
is_named s key = is_among (named_keys s.batches) key

-- the entry of a key with its seal, and the entry alone
abbrev pub sealed_entry_of : State → List (List ℕ) → Option (Entry × Seal)
sealed_entry_of s key = finite.get s.entries key

abbrev pub entry_of : State → List (List ℕ) → Option Entry
entry_of s key = cached s.entries key

-- the local document of a key
abbrev pub document_of : State → List (List ℕ) → Option Document
document_of s key = local_document key (base_of (entry_of s key)) s.batches

-- how an entry that no pending write is laid on stands to the backend
abbrev pub standing_by : Option (Entry × Seal) → DocState
standing_by None = stands.Unknown
standing_by (Some (Unknown version, seal)) = stands.Unknown
standing_by (Some (entry, Seen)) = stands.Synced
standing_by (Some (entry, Committed at)) = stands.Committed

-- how a key's document stands to the backend
abbrev pub standing_of : State → List (List ℕ) → DocState
standing_of s key = if is_named s key then stands.Pending else standing_by (sealed_entry_of s key)

-- the entry was left by an acknowledgement that no point has covered yet
abbrev pub is_uncovered : Option Timestamp → Seal → Bool
is_uncovered last Seen = false
is_uncovered None (Committed at) = true
is_uncovered (Some last) (Committed at) = is_earlier last at

-- the keys that unfinished writes touch: pending writes name them, or their entries aren't covered yet
abbrev pub touched_keys_of : State → List (List (List ℕ))
touched_keys_of s = named_keys s.batches
    ++ map (λ e. e.0) (filter (λ e. is_uncovered s.last_read e.1.1) (finite.entries s.entries))

-- a document as it stands in the store
abbrev pub stored : State → List (List ℕ) → Document → Stored
stored s key document =
    record { fields = document.fields; update_time = document.update_time; state = standing_of s key }

-- the documents of the keys that pending writes name or that have an entry
unfoldable pub documents_of : State → DocumentMap
documents_of s = finite.from_entries (filter_map
    (λ key. option_map (λ d. (key, stored s key d)) (document_of s key))
    (named_keys s.batches ++ finite.keys s.entries))

-- these are all local documents that there are
abbrev pub DocumentsAreLocal : Type 0
DocumentsAreLocal = (s : State) (key : List (List ℕ))
    → finite.get (documents_of s) key ≡ option_map (stored s key) (document_of s key)
