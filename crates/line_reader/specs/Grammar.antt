-- What the trees of lines without faults spell. The form of these trees is said by their faults, but
-- that of a message, which has faults of its own. A member whose value is null counts as left out.
use Rattle.std.specs.Prelude.{◌≡◌, ℕ, List, [], codes, Option, Some, None}
use Rattle.serde_json.specs.Data.{Data, Members, string}
use Rattle.document_keys.specs.Names.{Root}
use Rattle.value_model.specs.declared.document.RpcStatus.{RpcStatus}
use Rattle.value_model.specs.declared.message.StreamName.{StreamName}
use Rattle.value_model.specs.declared.message.StreamName.TheVariants as stream
use Rattle.value_model.specs.declared.timestamp.Timestamp.{Timestamp}
use Rattle.json_model.specs.declared.place.Object.TheVariants as object
use Rattle.json_model.specs.declared.fault.JsonFault.{JsonFault}
use Rattle.json_model.specs.declared.fault.JsonFault.TheVariants as json_fault
use Rattle.json_model.specs.Faults.{FirstOf}
use Rattle.json_model.specs.Forms.{IsGiven, InObject, ByChoice, SpellsEach}
use Rattle.json_model.specs.Grammar.{SpellsName, SpellsTime}
use Rattle.json_model.specs.Members.{given}
use Rattle.json_model.specs.Numbers.{SpellsUpTo, max_listener_id}
use Rattle.mutations.specs.declared.write.Write.{Write}
use Rattle.json_rpc.specs.Grammar.{SpellsWrite}
use Rattle.queries.specs.declared.raw.RawQuery.{RawQuery}
use Rattle.json_queries.specs.Grammar.{SpellsQuery}
use Rattle.json_messages.specs.Faults.{ListenFaults, WriteResponseFaults}
use Rattle.json_messages.specs.Grammar.{SpellsStatus, SpellsListenResponse, SpellsWriteResponse}
use Rattle.line_reader.specs.declared.raw_event.RawEvent.{RawEvent}
use Rattle.line_reader.specs.declared.raw_event.RawEvent.TheVariants as raw

-- the members of what `write` holds: a local write time, and writes
pub record SpellsWriteLine (root : Root) (ms : Members) (at : Timestamp) (writes : List Write)
    : Type 0 where
  pub time : IsGiven (given (codes "at") ms) (λ d. SpellsTime d at)
  pub each : SpellsEach (SpellsWrite root) (given (codes "writes") ms) writes

-- the members of what `get` holds: the name of a document
abbrev pub SpellsGetLine : Root → Members → List (List ℕ) → Type 0
SpellsGetLine root ms key = IsGiven (given (codes "name") ms) (λ d. SpellsName root d key)

-- the id of a listener: a whole number from 0 to 4,294,967,295, which is 0 where it is left out
abbrev pub SpellsListenerId : Option Data → ℕ → Type 0
SpellsListenerId None id = id ≡ 0
SpellsListenerId (Some d) id = SpellsUpTo max_listener_id d id

-- the members of what `listen` holds: the id of a listener, and its target
pub record SpellsListenLine (root : Root) (ms : Members) (id : ℕ) (query : RawQuery) : Type 0 where
  pub listener : SpellsListenerId (given (codes "id") ms) id
  pub target : IsGiven (given (codes "target") ms) (λ d. SpellsQuery root d query)

-- the members of what `unlisten` holds: the id of a listener
abbrev pub SpellsUnlistenLine : Members → ℕ → Type 0
SpellsUnlistenLine ms id = SpellsListenerId (given (codes "id") ms) id

-- ---- what comes on a stream

-- the name of a stream of the backend
abbrev pub stream_text : StreamName → List ℕ
stream_text stream.Watch = codes "watch"
stream_text stream.Write = codes "write"

-- the members of what `open` holds: the name of a stream
abbrev pub SpellsOpenLine : Members → StreamName → Type 0
SpellsOpenLine ms name = given (codes "stream") ms ≡ Some (string (stream_text name))

-- a status; where it is left out its code is 0 and its message is empty
abbrev pub SpellsClosingStatus : Option Data → RpcStatus → Type 0
SpellsClosingStatus None status = (status.code ≡ 0) × (status.message ≡ [])
SpellsClosingStatus (Some d) status = SpellsStatus d status

-- the members of what `close` holds: the name of a stream, and with which status it was closed
pub record SpellsCloseLine (ms : Members) (name : StreamName) (status : RpcStatus) : Type 0 where
  pub of : SpellsOpenLine ms name
  pub why : SpellsClosingStatus (given (codes "status") ms) status

-- a tree with no faults, which spells the message
pub record IsGoodMessage {X : Type 0} (Faults : List JsonFault → Type 0) (Spells : X → Type 0)
    (message : X) : Type 0 where
  pub clean : Faults []
  pub spells : Spells message

-- the member that a fault of a message is told by; want of memory is no fault of it
abbrev pub member_of : JsonFault → Option (List ℕ)
member_of (json_fault.BadShape member) = Some member
member_of (json_fault.BadTime member) = Some member
member_of (json_fault.BadBytes member) = Some member
member_of json_fault.TooDeep = Some (codes "value")
member_of (json_fault.Unsupported member) = Some member
member_of (json_fault.BadName bad) = Some (codes "name")
member_of json_fault.NoMemory = None

-- a tree with faults, of which the first of the least kind is told by this member
pub record IsBadMessage (Faults : List JsonFault → Type 0) (member : List ℕ) : Type 0 where
  pub fault : JsonFault
  pub first : FirstOf Faults (Some fault)
  pub told : member_of fault ≡ Some member

-- the members of what `timer` holds: the name of the one timer
abbrev pub SpellsTimerLine : Members → Type 0
SpellsTimerLine ms = given (codes "name") ms ≡ Some (string (codes "online"))

-- ---- lines

-- What the only member of a line spells, by its name: `{"at":"..","writes":[..]}`, `{"name":".."}`,
-- `{"id":7,"target":{..}}`, `{"id":7}`, `{"stream":"write"}`, `{"status":{..},"stream":"write"}`,
-- a message of a stream, or `{"name":"online"}`.
abbrev pub SpellsNamed : Root → List ℕ → Data → RawEvent → Type 0
SpellsNamed root name d (raw.Write at writes) =
    (name ≡ codes "write") × InObject d (λ ms. SpellsWriteLine root ms at writes)
SpellsNamed root name d (raw.Get key) =
    (name ≡ codes "get") × InObject d (λ ms. SpellsGetLine root ms key)
SpellsNamed root name d (raw.Listen id query) =
    (name ≡ codes "listen") × InObject d (λ ms. SpellsListenLine root ms id query)
SpellsNamed root name d (raw.Unlisten id) =
    (name ≡ codes "unlisten") × InObject d (λ ms. SpellsUnlistenLine ms id)
SpellsNamed root name d (raw.Opened of) =
    (name ≡ codes "open") × InObject d (λ ms. SpellsOpenLine ms of)
SpellsNamed root name d (raw.Closed of status) =
    (name ≡ codes "close") × InObject d (λ ms. SpellsCloseLine ms of status)
SpellsNamed root name d (raw.Watch message) =
    (name ≡ codes "watch")
    × IsGoodMessage (ListenFaults root d) (SpellsListenResponse root d) message
SpellsNamed root name d (raw.BadWatch member) =
    (name ≡ codes "watch") × IsBadMessage (ListenFaults root d) member
SpellsNamed root name d (raw.Written message) =
    (name ≡ codes "written")
    × IsGoodMessage (WriteResponseFaults root d) (SpellsWriteResponse d) message
SpellsNamed root name d (raw.BadWritten member) =
    (name ≡ codes "written") × IsBadMessage (WriteResponseFaults root d) member
SpellsNamed root name d raw.Timer = (name ≡ codes "timer") × InObject d SpellsTimerLine

-- the tree of a line spells the event
abbrev pub Spells : Root → Data → RawEvent → Type 0
Spells root d e = ByChoice object.Line d (λ ms name inner. SpellsNamed root name inner e)
