-- What a client keeps of the stream of listeners (google.firestore.v1 Listen), read off what it has heard: the target of each
-- listener, whether the stream is open and what was done on it, the online state, and which targets are current.
use Rattle.std.specs.Prelude.{ℕ, nat_eq, ℤ, pos, Bool, true, false, ◌&&◌, ◌||◌, ◌==◌, not, List, [], ◌∷◌, length, Option, Some, None, is_some, if◌then◌else◌}
use Rattle.std.specs.List.{fold, list_any}
use Rattle.std.specs.Ordering.{int_eq}
use Rattle.client_events.specs.declared.event.Event.{Event}
use Rattle.client_events.specs.declared.event.Event.TheVariants as event
use Rattle.listen_protocol.specs.Calls.{Calls, Key, applied, asked, came, skipped, unasked}
use Rattle.listen_protocol.specs.ToldKeys.{told_keys}
use Rattle.listen_protocol.specs.Transcript.{counts, is_current_in}
use Rattle.queries.specs.declared.target.Target.{Target}
use Rattle.queries.specs.declared.target.Target.TheVariants as target
use Rattle.record_codec.specs.declared.commit.Commit.{Commit}
use Rattle.record_codec.specs.declared.commit.Commit.TheVariants.{Drop}
use Rattle.target_cache.specs.declared.row.Held.{Held}
use Rattle.value_model.specs.declared.message.ListenResponse.{ListenResponse}
use Rattle.value_model.specs.declared.message.ListenResponse.TheVariants as message
use Rattle.value_model.specs.declared.message.StreamName.TheVariants as stream
use Rattle.client_turns.specs.declared.online.OnlineState.{OnlineState}
use Rattle.client_turns.specs.declared.online.OnlineState.TheVariants.{Unknown, Online, Offline}
use Rattle.client_turns.specs.declared.refusal.Refusal.{Refusal}
use Rattle.client_turns.specs.Lines.{Line, add, error, listening, remove, unlistened}
use Rattle.client_turns.specs.Past.{Entry, Past}

-- ---- the targets of listeners

-- one listener's target, or another's
abbrev pub if_id : ℕ → ℕ → Option ℤ → Option ℤ → Option ℤ
if_id other id new was = if nat_eq other id then new else was

-- a line that says of a listener which target it has, or that it ended
abbrev pub listened_by : ℕ → Option ℤ → Line → Option ℤ
listened_by id was (listening other t number) = if_id other id (Some t) was
listened_by id was (unlistened other number) = if_id other id None was
listened_by id was (error other status) = if_id other id None was
listened_by id was _ = was

-- the id of the target of a listener, after these lines
abbrev pub listened_in : ℕ → List Line → Option ℤ → Option ℤ
listened_in id lines was = fold (listened_by id) was lines

-- the id of the target of a listener, if there is such a listener: the one that it was answered with
abbrev pub listened : ℕ → Past → Option ℤ
listened id [] = None
listened id (entry ∷ past) = listened_in id entry.turn.lines (listened id past)

-- a line that says that a listener began
abbrev pub begun_by : List ℕ → Line → List ℕ
begun_by ids (listening id t number) = id ∷ ids
begun_by ids _ = ids

-- the ids under which listeners began, in these lines and before
abbrev pub begun_in : List Line → List ℕ → List ℕ
begun_in lines ids = fold begun_by ids lines

-- the ids under which listeners began, whether they ended or not
abbrev pub begun : Past → List ℕ
begun [] = []
begun (entry ∷ past) = begun_in entry.turn.lines (begun past)

-- this is the target
abbrev pub is_target : ℤ → Option ℤ → Bool
is_target t None = false
is_target t (Some other) = int_eq other t

-- a target is wanted while it has a listener
abbrev pub is_wanted : ℤ → Past → Bool
is_wanted t past = list_any (λ id. is_target t (listened id past)) (begun past)

-- some target is wanted
abbrev pub is_any_wanted : Past → Bool
is_any_wanted past = list_any (λ id. is_some (listened id past)) (begun past)

-- ---- the stream

-- What an event is to the stream of listeners: the stream opens, it closes, it brings a message, the timer of the online state
-- goes off, or the event is none of the stream's.
pub data WatchStep : Type 0 where
  opens : WatchStep
  closes : WatchStep
  hears : ListenResponse → WatchStep
  rings : WatchStep
  passes : WatchStep

-- a message that is refused closes the stream
abbrev pub step_by : Event → Option Refusal → WatchStep
step_by (event.Opened stream.Watch) refusal = opens
step_by (event.Closed stream.Watch status) refusal = closes
step_by (event.BadMessage stream.Watch member) refusal = closes
step_by (event.Watch response) None = hears response
step_by (event.Watch response) (Some refusal) = closes
step_by event.Timer refusal = rings
step_by _ refusal = passes

abbrev pub step_of : Entry → WatchStep
step_of entry = step_by entry.event entry.turn.refusal

abbrev pub open_by : WatchStep → Bool → Bool
open_by opens is_open = true
open_by closes is_open = false
open_by _ is_open = is_open

-- the stream was opened, and not closed since
abbrev pub is_watched : Past → Bool
is_watched [] = false
is_watched (entry ∷ past) = open_by (step_of entry) (is_watched past)

-- ---- what was done on it

-- the message is a point: a change of targets without ids, with a read time
abbrev pub is_point : ListenResponse → Bool
is_point (message.Target change) = (length change.target_ids == 0) && is_some change.read_time
is_point _ = false

-- a point that is committed is applied, and one that isn't is skipped
abbrev pub passed : Bool → Option Commit → Calls → Calls
passed false commit h = h
passed true None h = skipped ∷ h
passed true (Some commit) h = applied ∷ h

-- what an event does on the stream before anything is requested
abbrev pub calls_by : WatchStep → Option Commit → Calls → Calls
calls_by opens commit h = []
calls_by closes commit h = []
calls_by (hears response) commit h = passed (is_point response) commit (came response ∷ h)
calls_by _ commit h = h

-- the keys from which a target goes on: those that its row holds
abbrev pub held_keys : Option Held → List Key
held_keys None = []
held_keys (Some held) = held.keys

-- the document that a target asks for, if it asks for one
abbrev pub wanted_document : Target → Option Key
wanted_document (target.Document key) = Some key
wanted_document (target.Collection collection) = None

-- a line that is a request on the stream
abbrev pub requested_by : Calls → Line → Calls
requested_by h (add t row) = asked t (held_keys row.held) (wanted_document row.target) ∷ h
requested_by h (remove t) = unasked t ∷ h
requested_by h _ = h

-- the requests that these lines make
abbrev pub requested_in : List Line → Calls → Calls
requested_in lines h = fold requested_by h lines

-- remove requests of these ids, one after another
abbrev pub unasked_all : List ℤ → Calls → Calls
unasked_all [] h = h
unasked_all (t ∷ ts) h = unasked_all ts (unasked t ∷ h)

-- what was done on the stream since it was opened, the newest first
abbrev pub calls_of : Past → Calls
calls_of [] = []
calls_of (entry ∷ past) =
    requested_in entry.turn.lines (calls_by (step_of entry) entry.turn.commit (calls_of past))

-- ---- the online state

abbrev pub is_offline : OnlineState → Bool
is_offline Offline = true
is_offline _ = false

-- Without a wanted target nothing is known after a close. Otherwise nothing is known either where the backend was heard since
-- the last close; and where it wasn't, the client is offline.
abbrev pub online_closed : Bool → OnlineState → OnlineState
online_closed false was = Unknown
online_closed true Online = Unknown
online_closed true _ = Offline

-- where nothing is known yet when the timer goes off, the client is offline
abbrev pub online_rung : OnlineState → OnlineState
online_rung Unknown = Offline
online_rung was = was

abbrev pub online_by : WatchStep → Bool → OnlineState → OnlineState
online_by closes wanted was = online_closed wanted was
online_by (hears response) wanted was = Online
online_by rings wanted was = online_rung was
online_by _ wanted was = was

abbrev pub online_of : Past → OnlineState
online_of [] = Unknown
online_of (entry ∷ past) = online_by (step_of entry) (is_any_wanted past) (online_of past)

-- ---- current targets

-- the message is a filter whose count isn't the number of told keys of the target: the target is reset
abbrev pub is_mismatch : Calls → ListenResponse → ℤ → Bool
is_mismatch h (message.Filter filter) t =
    int_eq filter.target_id t && (counts t h && not (length (told_keys t h) == filter.count))
is_mismatch h _ t = false

-- the told keys of a target that counts and is CURRENT
abbrev pub keys_at_point : ℤ → Calls → Option (List Key)
keys_at_point t h = if counts t h && is_current_in t h then Some (told_keys t h) else None

-- the commit drops keys, and makes the row of the target blank
abbrev pub is_dropped_by : Option Commit → ℤ → Bool
is_dropped_by (Some (Drop keys ids)) t = list_any (λ n. int_eq (pos n) t) ids
is_dropped_by _ t = false

-- What a message makes of a target: a point that is applied tells whether it is current, and its keys; a reset takes that away.
abbrev pub told_after : ℤ → ListenResponse → Option Commit → Calls → Option (List Key) → Option (List Key)
told_after t response commit h was =
    if is_point response && is_some commit then keys_at_point t (came response ∷ h)
    else if is_mismatch h response t || is_dropped_by commit t then None
    else was

abbrev pub told_by : ℤ → WatchStep → Option Commit → Calls → Option (List Key) → Option (List Key)
told_by t (hears response) commit h was = told_after t response commit h was
told_by t _ commit h was = was

-- a target is current only while it is wanted and the client isn't offline
abbrev pub if_so : Bool → Option (List Key) → Option (List Key)
if_so true keys = keys
if_so false keys = None

-- The keys of a target, where it is current: those that were told at the last applied point, since which the target was always
-- wanted and never reset, and the client never offline.
abbrev pub current_keys : ℤ → Past → Option (List Key)
current_keys t [] = None
current_keys t (entry ∷ past) =
    if_so (is_wanted t (entry ∷ past) && not (is_offline (online_of (entry ∷ past))))
    (told_by t (step_of entry) entry.turn.commit (calls_of past) (current_keys t past))
