-- What the journal can hold of what is read.
use Rattle.std.specs.Prelude.{◌<◌, ◌^◌}
use Rattle.std.specs.List.{All}
use Rattle.value_model.specs.Storable.{IsCountable}
use Rattle.value_model.specs.Time.{IsMoment}
use Rattle.json_rpc.specs.Storable.{IsStorableWrite}
use Rattle.json_queries.specs.Storable.{IsStorableRawQuery}
use Rattle.json_messages.specs.Storable.{IsStorableAnswer, IsStorableResponse}
use Rattle.queries.specs.declared.target.Target.{Target}
use Rattle.queries.specs.declared.target.Target.TheVariants.{Document, Collection}
use Rattle.client_events.specs.Spelled.{IsSpelledEvent}
use Rattle.line_reader.specs.declared.raw_event.RawEvent.{RawEvent}
use Rattle.line_reader.specs.declared.raw_event.RawEvent.TheVariants as raw
use Rattle.line_reader.specs.declared.refusal.Refusal.{Refusal}
use Rattle.line_reader.specs.declared.refusal.Refusal.TheVariants.{BadWrites}
use Rattle.line_reader.specs.declared.reading.Reading.{Reading}
use Rattle.line_reader.specs.declared.reading.Reading.TheVariants.{Line, Refused}

-- what the tree of a line spells can be stored, but for the rules of batches and of queries
abbrev pub HoldsStorable : RawEvent → Type 0
HoldsStorable (raw.Write at writes) = IsMoment at × All IsStorableWrite writes
HoldsStorable (raw.Listen id query) = IsStorableRawQuery query
HoldsStorable (raw.Watch message) = IsStorableResponse message
HoldsStorable (raw.Written message) = IsStorableAnswer message
HoldsStorable _ = Unit {0}

-- eight bytes have the number of a query's orders
abbrev pub HasCountedOrders : Target → Type 0
HasCountedOrders (Document key) = Unit {0}
HasCountedOrders (Collection target) = IsCountable target.orders

-- the count of a refusal, if it has one, fits eight bytes
abbrev pub HasCount : Refusal → Type 0
HasCount (BadWrites count) = count < 2 ^ 64
HasCount _ = Unit {0}

-- of any reading, then, such a count fits
abbrev pub HasCounts : Reading → Type 0
HasCounts (Line e) = Unit {0}
HasCounts (Refused refusal) = HasCount refusal

-- what an event commits, or brings to a later commit, has a spelling, and the count of a refusal fits
-- eight bytes
abbrev pub IsSpelledReading : Reading → Type 0
IsSpelledReading (Line e) = IsSpelledEvent e
IsSpelledReading (Refused refusal) = HasCount refusal
