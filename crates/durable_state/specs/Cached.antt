-- The entries that a commit changes, and the cache behind it.
use Rattle.std.specs.Prelude.{ℕ, List, [], ◌∷◌, map as each, fold, Option, Some, None, option_map}
use Rattle.std.specs.FinMap as finite
use Rattle.std.specs.List.{filter_map}
use Rattle.value_model.specs.declared.document.Entry.{Entry}
use Rattle.value_model.specs.declared.document.Seal.{Seal}
use Rattle.value_model.specs.declared.document.Seal.TheVariants.{Seen, Committed}
use Rattle.value_model.specs.declared.timestamp.Timestamp.{Timestamp}
use Rattle.mutations.specs.declared.batch.Batch.{Batch}
use Rattle.mutations.specs.declared.results.WriteResult.{WriteResult}
use Rattle.mutations.specs.declared.write.Write.{Write}
use Rattle.acknowledgements.specs.Acked.{acked}
use Rattle.outcome_codec.specs.declared.parts.KeyedEntry.{KeyedEntry}
use Rattle.mutation_queue.specs.Queue.{keys_of}
use Rattle.remote_documents.specs.Table.{EntryMap}

-- a key, and its new entry with the seal, or none
abbrev pub Changed : Type 0
Changed = List (List ℕ) × Option (Entry × Seal)

-- the cache with this at the key, and all else as before
abbrev pub with_changed : EntryMap → Changed → EntryMap
with_changed entries (key, None) = finite.remove entries key
with_changed entries (key, Some sealed) = finite.insert entries key sealed

-- one change after another
abbrev pub with_all : EntryMap → List Changed → EntryMap
with_all entries changes = fold with_changed entries changes

-- the entry of a key
abbrev pub cached : EntryMap → List (List ℕ) → Option Entry
cached entries key = option_map (λ sealed. sealed.0) (finite.get entries key)

-- the writes of the first of some batches
abbrev pub first_writes : List Batch → List Write
first_writes [] = []
first_writes (batch ∷ batches) = batch.writes

-- The new entry of a key by an answer to writes, by all writes of the key, sealed with the time of the commit. An entry that the
-- key's writes don't overtake stays.
abbrev pub answered_by : EntryMap → List Write → List WriteResult → Timestamp → List (List ℕ) → Option Changed
answered_by entries writes results at key =
    option_map (λ entry. (key, Some (entry, Committed at))) (acked (cached entries key) key writes results at)

-- an acknowledgement changes the entries of the keys that the writes name
abbrev pub acknowledged_keys : EntryMap → List Write → List WriteResult → Timestamp → List Changed
acknowledged_keys entries writes results at =
    filter_map (answered_by entries writes results at) (keys_of writes)

-- what a point brings is sealed as seen
abbrev pub seen_at : List KeyedEntry → List Changed
seen_at entries = each (λ e. (e.key, Some (e.entry, Seen))) entries

-- keys that lose their entries
abbrev pub dropped : List (List (List ℕ)) → List Changed
dropped keys = each (λ key. (key, None)) keys
