-- What an item of a source is: an event, or why it is refused.
use Rattle.std.specs.Prelude.{◌≡◌, ℕ, List, [], Option, Some, None, IsUtf8, length, take, if◌then◌else◌}
use Rattle.std.specs.List.{AllZip}
use Rattle.host_api.specs.Items.{Item, Bytes, Overlong}
use Rattle.serde_json.specs.Data.{Data}
use Rattle.serde_json.specs.Read.{read}
use Rattle.document_keys.specs.Names.{Root}
use Rattle.value_model.specs.declared.message.StreamName.TheVariants as stream
use Rattle.value_model.specs.declared.timestamp.Timestamp.{Timestamp}
use Rattle.json_model.specs.declared.fault.JsonFault.{JsonFault}
use Rattle.json_model.specs.declared.fault.JsonFault.TheVariants as json_fault
use Rattle.json_model.specs.Faults.{FirstOf}
use Rattle.mutations.specs.declared.write.Write.{Write}
use Rattle.queries.specs.declared.raw.RawQuery.{RawQuery}
use Rattle.queries.specs.declared.raw.QueryFault.TheVariants as query_fault
use Rattle.queries.specs.Queried.{IsQueryOf, HasQueryFault}
use Rattle.client_events.specs.declared.event.Event.TheVariants as event
use Rattle.client_events.specs.Spelled.{is_batch}
use Rattle.line_reader.specs.Faults.{LineFaults}
use Rattle.line_reader.specs.Grammar.{Spells}
use Rattle.line_reader.specs.declared.raw_event.RawEvent.{RawEvent}
use Rattle.line_reader.specs.declared.raw_event.RawEvent.TheVariants as raw
use Rattle.line_reader.specs.declared.refusal.Refusal.{Refusal}
use Rattle.line_reader.specs.declared.refusal.Refusal.TheVariants.{LineTooLong, BadLine, TooDeep, Unsupported, BadName, BadWrites, BadQuery}
use Rattle.line_reader.specs.declared.reading.Reading.{Reading}
use Rattle.line_reader.specs.declared.reading.Reading.TheVariants.{Line, Refused}

-- the bytes are JSON (RFC 8259) in UTF-8, and this is its tree
pub record IsJson (text : List ℕ) (d : Data) : Type 0 where
  pub utf8 : IsUtf8 text
  pub is : read text ≡ Some d

-- the bytes are JSON without faults, which spells this
pub record IsLineOf (root : Root) (text : List ℕ) (e : RawEvent) : Type 0 where
  pub tree : Data
  pub json : IsJson text tree
  pub clean : LineFaults root tree []
  pub spells : Spells root tree e

-- the refusal of a fault; want of memory is none
abbrev pub refusal_of : JsonFault → Option Refusal
refusal_of (json_fault.BadShape member) = Some (BadLine member)
refusal_of (json_fault.BadTime member) = Some (BadLine member)
refusal_of (json_fault.BadBytes member) = Some (BadLine member)
refusal_of json_fault.TooDeep = Some TooDeep
refusal_of (json_fault.Unsupported member) = Some (Unsupported member)
refusal_of (json_fault.BadName bad) = Some (BadName bad)
refusal_of json_fault.NoMemory = None

-- writes, unless there are none or too many
abbrev pub batch_reading : Timestamp → List Write → Reading
batch_reading at writes =
    if is_batch (length writes) then Line (event.Write at writes)
    else Refused (BadWrites (length writes))

-- a listener to what a query is once it is checked, or the least rule that the query breaks
abbrev pub IsListenerReading : ℕ → RawQuery → Reading → Type 0
IsListenerReading id query (Line (event.Listen other target)) = (other ≡ id) × IsQueryOf query target
IsListenerReading id query (Refused (BadQuery rule)) =
    HasQueryFault query (query_fault.BadQuery rule)
IsListenerReading id query _ = ⊥

-- What is made of what a line spells: an event, unless it breaks the rules of batches or of queries.
-- A message with faults is an event too.
abbrev pub IsReadingOf : RawEvent → Reading → Type 0
IsReadingOf (raw.Write at writes) reading = reading ≡ batch_reading at writes
IsReadingOf (raw.Get key) reading = reading ≡ Line (event.Get key)
IsReadingOf (raw.Listen id query) reading = IsListenerReading id query reading
IsReadingOf (raw.Unlisten id) reading = reading ≡ Line (event.Unlisten id)
IsReadingOf (raw.Opened name) reading = reading ≡ Line (event.Opened name)
IsReadingOf (raw.Closed name status) reading = reading ≡ Line (event.Closed name status)
IsReadingOf (raw.Watch message) reading = reading ≡ Line (event.Watch message)
IsReadingOf (raw.BadWatch member) reading = reading ≡ Line (event.BadMessage stream.Watch member)
IsReadingOf (raw.Written message) reading = reading ≡ Line (event.Written message)
IsReadingOf (raw.BadWritten member) reading = reading ≡ Line (event.BadMessage stream.Write member)
IsReadingOf raw.Timer reading = reading ≡ Line event.Timer

-- An item has one of these readings: it is too long, it is no JSON, it is JSON with faults, of
-- which the first of the least kind is answered, or it is JSON without faults, and is what is made
-- of what that spells.
pub data Reads (root : Root) : Item → Reading → Type 0 where
  too_long : Reads root Overlong (Refused LineTooLong)
  no_json : (text : List ℕ) → ((d : Data) → IsJson text d → ⊥)
      → Reads root (Bytes text) (Refused (BadLine []))
  a_fault : (text : List ℕ) (d : Data) (fault : JsonFault) (refusal : Refusal) → IsJson text d
      → FirstOf (LineFaults root d) (Some fault) → refusal_of fault ≡ Some refusal
      → Reads root (Bytes text) (Refused refusal)
  no_fault : (text : List ℕ) (d : Data) (e : RawEvent) (reading : Reading) → IsJson text d
      → LineFaults root d [] → Spells root d e → IsReadingOf e reading
      → Reads root (Bytes text) reading

-- what the first items are, one reading for each
abbrev pub AreRead : Root → List Item → List Reading → Type 0
AreRead root items readings = AllZip (Reads root) (take (length readings) items) readings
