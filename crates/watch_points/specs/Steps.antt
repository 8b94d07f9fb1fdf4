-- What the code makes, entry by entry and target by target.
use Rattle.std.specs.Prelude.{ℕ, ◌+◌, ℤ, pos, unsigned_abs, Bool, true, false, not, ◌&&◌, ◌||◌, if◌then◌else◌, List, [], ◌∷◌, fold, Option, Some, None}
use Rattle.std.specs.Ordering.{int_eq}
use Rattle.document_keys.specs.KeySet.{is_key}
use Rattle.value_model.specs.Versions.{version_of}
use Rattle.value_model.specs.declared.document.Entry.{Entry}
use Rattle.value_model.specs.declared.document.Entry.TheVariants.{Missing}
use Rattle.value_model.specs.declared.document.Seal.{Seal}
use Rattle.value_model.specs.declared.document.Seal.TheVariants.{Seen, Committed}
use Rattle.value_model.specs.declared.timestamp.Timestamp.{Timestamp}
use Rattle.acknowledgements.specs.Acked.{is_earlier}
use Rattle.listen_protocol.specs.Calls.{Key}
use Rattle.watch_aggregator.specs.declared.point.WatchTarget.{WatchTarget}
use Rattle.outcome_codec.specs.declared.parts.KeyedEntry.{KeyedEntry}
use Rattle.outcome_codec.specs.declared.parts.PointRow.{PointRow}
use Rattle.target_cache.specs.declared.row.Row.{Row}
use Rattle.durable_state.specs.Documents.{is_among, sealed_entry_of}
use Rattle.durable_state.specs.State.{State}
use Rattle.watch_points.specs.PointCommit.{is_known_missing, known_now}

-- the entry replaces what is known
abbrev pub replaces : Option (Entry × Seal) → Entry → Bool
replaces None entry = true
replaces (Some (known, Seen)) entry = is_earlier (version_of known) (version_of entry)
replaces (Some (known, Committed at)) entry = not (is_earlier (version_of entry) (version_of known))

-- what a key gets behind one entry more
abbrev pub put_over : State → Key → Option Entry → Key × Entry → Option Entry
put_over s k old (key, entry) =
    if replaces (sealed_entry_of s key) entry then (if is_key key k then Some entry else old) else old

-- what a key gets of entries that wait
abbrev pub put_of : State → List (Key × Entry) → Key → Option Entry
put_of s waiting k = fold (put_over s k) None waiting

-- the key, unless it was told
abbrev pub untold : List Key → Option Key → Option Key
untold told None = None
untold told (Some key) = if is_among told key then None else Some key

-- the document that the target lacks
abbrev pub lacked : WatchTarget → Option Key
lacked target = if target.current then untold target.told target.document else None

-- the key isn't known to be missing, and that it is replaces what is known, once this is put
abbrev pub misses : State → Timestamp → Key → Option Entry → Bool
misses s at key put = not (is_known_missing (known_now (sealed_entry_of s key) put))
    && replaces (known_now (sealed_entry_of s key) put) (Missing at)

-- what a key gets behind a document that is lacked, or behind none
abbrev pub missed_for : State → Timestamp → Key → Option Entry → Option Key → Option Entry
missed_for s at k put None = put
missed_for s at k put (Some key) = if is_key key k then (if misses s at k put then Some (Missing at) else put) else put

-- what a key gets behind one target more
abbrev pub missed_over : State → Timestamp → Key → Option Entry → WatchTarget → Option Entry
missed_over s at k put target = missed_for s at k put (lacked target)

-- what a key gets behind all targets
abbrev pub missed_of : State → Timestamp → List WatchTarget → Key → Option Entry → Option Entry
missed_of s at targets k put = fold (missed_over s at k) put targets

-- a key with its entry
abbrev pub keyed_entry : Key × Entry → KeyedEntry
keyed_entry pair = record { key = pair.0; entry = pair.1 }

-- the id is that of one of the rows, the first of which has this id
abbrev pub has_row_from : ℕ → List Row → ℤ → Bool
has_row_from first [] t = false
has_row_from first (row ∷ rows) t = int_eq t (pos first) || has_row_from (first + 2) rows t

-- the row with a token that isn't empty
abbrev pub row_with : ℤ → List ℕ → List Key → Option PointRow
row_with t [] told = None
row_with t (byte ∷ bytes) told = Some (record { id = unsigned_abs t; token = byte ∷ bytes; keys = told })

-- the row with a token, if there is one
abbrev pub row_by : ℤ → Option (List ℕ) → List Key → Option PointRow
row_by t None told = None
row_by t (Some token) told = row_with t token told

-- the row of a target that is CURRENT and has one
abbrev pub row_from : List Row → WatchTarget → Option PointRow
row_from rows target =
    if target.current && has_row_from 2 rows target.id then row_by target.id target.token target.told else None
