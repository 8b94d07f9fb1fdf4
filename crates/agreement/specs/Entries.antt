-- What the client knows of a document, and how it learns more.
--
-- An entry is Found, Missing or Unknown, with a version. It was Seen, or Committed by a write that the
-- backend has acknowledged.
use Rattle.std.specs.Prelude.{ℕ, Bool, true, false, ◌&&◌, ◌||◌, ◌==◌, nat_lt, nat_le}
use Rattle.std.specs.Prelude.{if◌then◌else◌, List, Option, Some, None}
use Rattle.std.specs.List.{list_any}
use Rattle.std.specs.Option.{option_map_or, option_and_then}
use Rattle.value_model.specs.Data.{Entries}
use Rattle.agreement.specs.Backend.{Key, is_key, Id, Written}
use Rattle.agreement.specs.Transcript.{Message, Sends, Deletes, Event, counts}

-- what is known: fields, that there is no document, or that there was a write of unknown outcome
pub data What : Type 0 where
  Found : Entries → What
  Missing : What
  Unknown : What

-- where it comes from: a message, or an acknowledged write with its commit time
pub data Seal : Type 0 where
  Seen : Seal
  Committed : ℕ → Seal

-- what is known of a document, as of a version
pub record Entry : Type 0 where
  pub what : What
  pub version : ℕ
  pub seal : Seal

-- the document that is there by what is known
abbrev pub document_by : What → ℕ → Option Written
document_by (Found fields) version = Some (record { fields = fields; update = version })
document_by _ version = None

-- the document that an entry says is there
abbrev pub document_of : Option Entry → Option Written
document_of entry = option_and_then (λ e. document_by e.what e.version) entry

-- the entry is of an acknowledged write
abbrev pub is_committed : Seal → Bool
is_committed Seen = false
is_committed (Committed commit) = true

-- an entry that a message makes
abbrev pub seen : What → ℕ → Entry
seen what version = record { what = what; version = version; seal = Seen }

-- an entry takes the place of an old one that it goes over, or of none
abbrev pub replaced : (Entry → Entry → Bool) → Option Entry → Entry → Option Entry
replaced goes_over None e = Some e
replaced goes_over (Some old) e = if goes_over e old then Some e else Some old

-- the entry that was seen waits in the buffer: it goes over one that isn't of a greater version
abbrev pub put : Bool → Key → Entry → (Key → Option Entry) → Key → Option Entry
put heeded key e buffer k =
    if heeded && is_key key k then replaced (λ new old. nat_le old.version new.version) (buffer k) e
    else buffer k

-- any of the ids counts
abbrev pub any_counts : List Id → List Event → Bool
any_counts ids past = list_any (λ id. counts id past) ids

-- what waits after a message: what it says of a document, where any id that it names counts
abbrev pub buffered : Message → List Event → (Key → Option Entry) → Key → Option Entry
buffered (Sends key fields update puts takes) past =
    put (any_counts puts past || any_counts takes past) key (seen (Found fields) update)
buffered (Deletes key time takes) past = put (nat_lt 0 time && any_counts takes past) key (seen Missing time)
buffered _ past = λ buffer. buffer

-- an entry that was seen goes over one of a lower version, or a committed one of the same
abbrev pub goes_over : Entry → Entry → Bool
goes_over new old = nat_lt old.version new.version || ((old.version == new.version) && is_committed old.seal)

-- after a point, with what was buffered
abbrev pub settled : Option Entry → Option Entry → Option Entry
settled old buffered = option_map_or (λ e. replaced goes_over old (seen e.what e.version)) buffered old

-- after a point with read time r, where the key may be missing
abbrev pub with_missing : Bool → ℕ → Option Entry → Option Entry
with_missing missing r old = if missing then replaced goes_over old (seen Missing r) else old

-- an acknowledged entry goes over one of a lower version
abbrev pub acked : Option Entry → Option Entry → Option Entry
acked old new = option_map_or (replaced (λ e before. nat_lt before.version e.version) old) new old
