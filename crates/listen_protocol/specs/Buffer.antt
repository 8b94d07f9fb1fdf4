-- The entries that wait for the next point.
use Rattle.std.specs.Prelude.{ℤ, Bool, false, ◌||◌, if◌then◌else◌, Option, Some, None, option_map, List, [], ◌∷◌}
use Rattle.std.specs.List.{list_any}
use Rattle.std.specs.Ordering.{int_cmp, nat_cmp, is_lt, ordering_then}
use Rattle.value_model.specs.declared.document.Entry.{Entry}
use Rattle.value_model.specs.declared.document.Entry.TheVariants as entry
use Rattle.value_model.specs.declared.timestamp.Timestamp.{Timestamp}
use Rattle.value_model.specs.declared.message.DocumentChange.{DocumentChange}
use Rattle.value_model.specs.declared.message.DocumentDelete.{DocumentDelete}
use Rattle.value_model.specs.declared.message.ListenResponse.{ListenResponse}
use Rattle.value_model.specs.declared.message.ListenResponse.TheVariants as sent
use Rattle.listen_protocol.specs.Calls.{Key, Calls, asked, unasked, came, applied, skipped}
use Rattle.document_keys.specs.KeySet.{is_key}
use Rattle.value_model.specs.Versions.{version_of}
use Rattle.listen_protocol.specs.Transcript.{counts}

-- any of the ids counts
abbrev pub any_counts : List ℤ → Calls → Bool
any_counts ids h = list_any (λ t. counts t h) ids

-- what a change leaves where an id counts
abbrev pub changed_entry : Bool → DocumentChange → Option (Key × Entry)
changed_entry counted change = if counted then Some (change.key, entry.Found change.fields change.update_time) else None

-- what a delete leaves where an id counts: nothing without a read time
abbrev pub deleted_entry : Bool → DocumentDelete → Option (Key × Entry)
deleted_entry counted delete = if counted then option_map (λ at. (delete.key, entry.Missing at)) delete.read_time else None

-- the entry that the message leaves, with its key: the document where any of its ids counts; that there is none, as of the
-- read time, where the delete has one and any of its ids counts
abbrev pub left_by : ListenResponse → Calls → Option (Key × Entry)
left_by (sent.Change change) h = changed_entry (any_counts change.target_ids h || any_counts change.removed_target_ids h) change
left_by (sent.Delete delete) h = deleted_entry (any_counts delete.removed_target_ids h) delete
left_by _ h = None

-- the first time is earlier, by second and nanosecond
abbrev pub is_earlier : Timestamp → Timestamp → Bool
is_earlier a b = is_lt (ordering_then (int_cmp a.seconds b.seconds) (nat_cmp a.nanos b.nanos))

-- the old entry stays: the new one's version is lower
abbrev pub stays : Option Entry → Entry → Bool
stays None new = false
stays (Some old) new = is_earlier (version_of new) (version_of old)

-- a later entry replaces one unless its version is lower
abbrev pub kept_of : Entry → Option Entry → Entry
kept_of new None = new
kept_of new (Some old) = if stays (Some old) new then old else new

-- the entry of a key after what a message left, if it left one
abbrev pub with_left : Key → Option (Key × Entry) → Option Entry → Option Entry
with_left k None old = old
with_left k (Some (key, new)) old = if is_key key k then Some (kept_of new old) else old

-- the entry of the key that waits for the next point
abbrev pub buffered : Key → Calls → Option Entry
buffered k [] = None
buffered k (came message ∷ h) = with_left k (left_by message h) (buffered k h)
buffered k (applied ∷ h) = None
buffered k (skipped ∷ h) = buffered k h
buffered k (asked id keys document ∷ h) = buffered k h
buffered k (unasked id ∷ h) = buffered k h
