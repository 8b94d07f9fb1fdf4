-- A first sync of a collection with one document, event by event: the states, the turns, and what was heard.
use Rattle.std.proofs.Common.{pos, false, List, [], ◌∷◌, Some, None}
use Rattle.std.specs.Prelude.{neg_ℤ}
use Rattle.agreement.specs.History.{Write}
use Rattle.client_events.specs.declared.event.Event.TheVariants as event
use Rattle.document_keys.specs.Names.{Root}
use Rattle.listen_protocol.specs.Calls.{Key}
use Rattle.durable_state.specs.State.{State, committed, start}
use Rattle.outcome_codec.specs.declared.parts.KeyedEntry.{KeyedEntry}
use Rattle.outcome_codec.specs.declared.parts.PointRow.{PointRow}
use Rattle.queries.specs.Holding.{name_path}
use Rattle.queries.specs.declared.target.CollectionTarget.{CollectionTarget}
use Rattle.queries.specs.declared.target.Target.{Target}
use Rattle.queries.specs.declared.target.Target.TheVariants.{Collection}
use Rattle.record_codec.specs.declared.commit.Commit.{Commit}
use Rattle.record_codec.specs.declared.commit.Commit.TheVariants.{Allocate, Point}
use Rattle.target_cache.specs.Cache.{blank}
use Rattle.value_model.specs.Documents.{Stored}
use Rattle.value_model.specs.declared.document.DocState.TheVariants.{Synced}
use Rattle.value_model.specs.declared.document.Entry.TheVariants.{Found}
use Rattle.value_model.specs.declared.message.ChangeKind.TheVariants.{NoChange, Add, Current}
use Rattle.value_model.specs.declared.message.ListenResponse.{ListenResponse}
use Rattle.value_model.specs.declared.message.ListenResponse.TheVariants as message
use Rattle.value_model.specs.declared.message.StreamName.TheVariants as stream
use Rattle.value_model.specs.declared.timestamp.Timestamp.{Timestamp}
use Rattle.views.specs.Viewed.{Viewed}
use Rattle.views.specs.declared.change.Kind.TheVariants.{Added}
use Rattle.views.specs.declared.raised.Raised.{Raised}
use Rattle.views.specs.Row.{row}
use Rattle.client_turns.specs.Lines.{Told, add, listening, snapshot}
use Rattle.client_turns.specs.Past.{Entry, Past, Turn}

-- ---- the backend

-- the document's key, of two segments of one byte
abbrev pub key_a : Key
key_a = (114 ∷ []) ∷ (97 ∷ []) ∷ []

-- the first moment that there is, whose tick is 1, and the next one
abbrev pub first_moment : Timestamp
first_moment = record { seconds = neg_ℤ (pos 62135596800); nanos = 0 }

abbrev pub second_moment : Timestamp
second_moment = record { seconds = neg_ℤ (pos 62135596800); nanos = 1 }

-- one write of one document, which has no fields
abbrev pub writes : List Write
writes = record { key = key_a; fields = Some []; commit = first_moment } ∷ []

abbrev pub root : Root
root = record { project = 112 ∷ []; name = 100 ∷ [] }

-- ---- what is told

-- the documents of a collection, by name
abbrev pub of_rooms : CollectionTarget
of_rooms = record { collection = (114 ∷ []) ∷ []; filter = None; orders = record { path = name_path; descending = false } ∷ []; start_at = None; end_at = None; limit = None }

abbrev pub query : Target
query = Collection of_rooms

-- the target gets the id 2
abbrev pub allocates : Commit
allocates = Allocate 2 query

abbrev pub adds : ListenResponse
adds = message.Target (record { kind = Add; target_ids = pos 2 ∷ []; cause = None; resume_token = []; read_time = None })

abbrev pub sends : ListenResponse
sends = message.Change (record { key = key_a; fields = []; update_time = first_moment; target_ids = pos 2 ∷ []; removed_target_ids = [] })

abbrev pub catches_up : ListenResponse
catches_up = message.Target (record { kind = Current; target_ids = pos 2 ∷ []; cause = None; resume_token = 1 ∷ []; read_time = Some second_moment })

abbrev pub point : ListenResponse
point = message.Target (record { kind = NoChange; target_ids = []; cause = None; resume_token = []; read_time = Some second_moment })

-- the point commits the document, and the row of the target
abbrev pub entries : List KeyedEntry
entries = record { key = key_a; entry = Found [] first_moment } ∷ []

abbrev pub rows : List PointRow
rows = record { id = 2; token = 1 ∷ []; keys = key_a ∷ [] } ∷ []

abbrev pub points : Commit
points = Point second_moment entries rows

-- ---- states: before the listener, before the point, and behind it

abbrev pub listening_state : State
listening_state = committed start allocates

abbrev pub synced_state : State
synced_state = committed listening_state points

-- ---- what is shown

-- the document as it stands in the store, and as it is printed
abbrev pub stored_a : Stored
stored_a = record { fields = []; update_time = Some first_moment; state = Synced }

abbrev pub raised : Raised
raised = record { rows = row key_a stored_a ∷ []; from_cache = false; changes = record { kind = Added; key = key_a } ∷ [] }

abbrev pub told : Told
told = record { id = 1; raised = raised }

-- the listener before its snapshot, and behind it
abbrev pub waiting_view : Viewed
waiting_view = record { target = query; raised = None }

abbrev pub synced_view : Viewed
synced_view = record { target = query; raised = Some raised }

-- ---- events, each with its turn

abbrev pub listens : Entry
listens = record { state = start; event = event.Listen 1 query; turn = record { refusal = None; commit = Some allocates; lines = listening 1 (pos 2) 1 ∷ []; limbo = [] } }

abbrev pub opens : Entry
opens = record { state = listening_state; event = event.Opened stream.Watch; turn = record { refusal = None; commit = None; lines = add (pos 2) (blank query) ∷ []; limbo = [] } }

-- nothing comes of a message
abbrev pub quiet_turn : Turn
quiet_turn = record { refusal = None; commit = None; lines = []; limbo = [] }

abbrev pub hears : ListenResponse → Entry
hears response = record { state = listening_state; event = event.Watch response; turn = quiet_turn }

abbrev pub syncs : Entry
syncs = record { state = listening_state; event = event.Watch point; turn = record { refusal = None; commit = Some points; lines = snapshot 2 (Some second_moment) told ∷ []; limbo = [] } }

-- ---- what was heard, the newest first

abbrev pub past_listening : Past
past_listening = listens ∷ []

abbrev pub past_open : Past
past_open = opens ∷ past_listening

abbrev pub past_added : Past
past_added = hears adds ∷ past_open

abbrev pub past_sent : Past
past_sent = hears sends ∷ past_added

abbrev pub past_current : Past
past_current = hears catches_up ∷ past_sent

abbrev pub past_synced : Past
past_synced = syncs ∷ past_current
