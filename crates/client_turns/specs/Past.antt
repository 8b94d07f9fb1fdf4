-- What a client has heard, and what it keeps of it beside the durable state: its listeners, and how the stream of writes stands.
-- What it keeps of the stream of listeners, `Watching` says.
use Rattle.std.specs.Prelude.{ℕ, nat_eq, Bool, true, false, ◌||◌, List, [], ◌∷◌, Option, Some, None, option_map, if◌then◌else◌}
use Rattle.record_codec.specs.declared.commit.Commit.{Commit}
use Rattle.durable_state.specs.State.{State}
use Rattle.client_events.specs.declared.event.Event.{Event}
use Rattle.client_events.specs.declared.event.Event.TheVariants as event
use Rattle.value_model.specs.declared.message.StreamName.TheVariants as stream
use Rattle.limbo_resolver.specs.Limbo.{Key}
use Rattle.views.specs.declared.raised.Raised.{Raised}
use Rattle.views.specs.Viewed.{Viewed}
use Rattle.mutations.specs.declared.results.WriteRequest.TheVariants.{Batch as a_batch}
use Rattle.write_pipeline.specs.Order.{Steps, acknowledged, closed, is_ready, kept, opened, sent, shaken}
use Rattle.client_turns.specs.declared.refusal.Refusal.{Refusal}
use Rattle.client_turns.specs.Lines.{Line, error, send, snapshot}

-- what an event came to: why it was refused, at most one commit, the lines that answer it, and the keys of the documents that
-- are in limbo then
pub record Turn : Type 0 where
  pub refusal : Option Refusal
  pub commit : Option Commit
  pub lines : List Line
  pub limbo : List Key

-- an event that was heard: the state before it, what it is, and its turn
pub record Entry : Type 0 where
  pub state : State
  pub event : Event
  pub turn : Turn

-- Events that a client has heard, the newest first. Those that were refused aren't among them, but for bad messages, which close
-- their stream.
abbrev pub Past : Type 0
Past = List Entry

-- the snapshot that the lines show of this listener, if they do
abbrev pub raised_in : ℕ → List Line → Option Raised
raised_in id [] = None
raised_in id (snapshot commit read_time told ∷ lines) =
    if nat_eq told.id id then Some told.raised else raised_in id lines
raised_in id (_ ∷ lines) = raised_in id lines

-- what an event makes of the listener of an id: it begins, it ends, or it stays
abbrev pub asked : ℕ → Event → Option Viewed → Option Viewed
asked id (event.Listen other query) view =
    if nat_eq other id then Some (record { target = query; raised = None }) else view
asked id (event.Unlisten other) view = if nat_eq other id then None else view
asked id _ view = view

-- the lines tell the listener of this id that the backend refused its target
abbrev pub is_refused_in : ℕ → List Line → Bool
is_refused_in id [] = false
is_refused_in id (error other status ∷ lines) = nat_eq other id || is_refused_in id lines
is_refused_in id (_ ∷ lines) = is_refused_in id lines

-- a listener ends where the backend refused its target
abbrev pub unless_refused : Bool → Option Viewed → Option Viewed
unless_refused true view = None
unless_refused false view = view

-- a listener after a snapshot, if it raised one
abbrev pub told : Option Raised → Option Viewed → Option Viewed
told None view = view
told (Some raised) view = option_map (λ v. record { target = v.target; raised = Some raised }) view

-- the listener of an id, if there is one: what it asks for, and its last snapshot since it began
abbrev pub listener : ℕ → Past → Option Viewed
listener id [] = None
listener id (entry ∷ past) =
    told (raised_in id entry.turn.lines)
    (unless_refused (is_refused_in id entry.turn.lines) (asked id entry.event (listener id past)))

-- ---- the stream of writes

-- what an event does on the stream of writes, before anything is sent: a message that is refused closes it
abbrev pub steps_by : Event → Option Refusal → Steps → Steps
steps_by (event.Opened stream.Write) refusal h = opened ∷ h
steps_by (event.Closed stream.Write status) refusal h = closed ∷ h
steps_by (event.BadMessage stream.Write member) refusal h = closed ∷ h
steps_by (event.Written response) (Some refusal) h = closed ∷ h
steps_by (event.Written response) None h = kept response.token ∷ (if is_ready h then acknowledged else shaken) ∷ h
steps_by _ refusal h = h

-- the batches that these lines send
abbrev pub sent_in : List Line → Steps → Steps
sent_in [] h = h
sent_in (send (a_batch token writes) ∷ lines) h = sent_in lines (sent ∷ h)
sent_in (_ ∷ lines) h = sent_in lines h

-- what was done on the stream of writes
abbrev pub steps_of : Past → Steps
steps_of [] = []
steps_of (entry ∷ past) = sent_in entry.turn.lines (steps_by entry.event entry.turn.refusal (steps_of past))
