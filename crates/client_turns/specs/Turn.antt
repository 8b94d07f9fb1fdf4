-- The turn of an event, from the state before it and what the client has heard.
use Rattle.std.specs.Prelude.{◌≡◌, Bool, true, false, ◌&&◌, List, [], ◌∷◌, ◌++◌, map as each, Option, Some, None, if◌then◌else◌}
use Rattle.document_keys.specs.Names.{Root}
use Rattle.limbo_resolver.specs.Limbo.{Key}
use Rattle.durable_state.specs.State.{State}
use Rattle.client_events.specs.declared.event.Event.{Event}
use Rattle.client_turns.specs.declared.refusal.Refusal.{Refusal}
use Rattle.client_turns.specs.declared.refusal.Refusal.TheVariants.{BadMessage}
use Rattle.client_turns.specs.Answers.{Answers}
use Rattle.client_turns.specs.Lines.{Line, Told, snapshot}
use Rattle.client_turns.specs.Asking.{AsksIf, resets_by}
use Rattle.client_turns.specs.Past.{Turn, Entry, Past, listener, steps_by, steps_of}
use Rattle.client_turns.specs.Settling.{AreInLimbo, Settles, stance_of}
use Rattle.client_turns.specs.Turns.{after}
use Rattle.client_turns.specs.Watching.{is_watched}
use Rattle.client_turns.specs.Writing.{requests}

-- a snapshot as a line over the state
abbrev pub snapshot_line : State → Told → Line
snapshot_line s told = snapshot s.number s.last_read told

-- the turn of an event that is heard: its answer, and the snapshots behind it
abbrev pub with_snapshots : State → Turn → List Told → Turn
with_snapshots s answer told =
    record answer { lines = answer.lines ++ each (snapshot_line s) told }

-- the turn with the keys that are in limbo then
abbrev pub with_limbo : Turn → List Key → Turn
with_limbo t keys = record t { limbo = keys }

-- a bad message is heard, though it is refused: it closes its stream
abbrev pub is_heard : Option Refusal → Bool
is_heard None = true
is_heard (Some (BadMessage name member)) = true
is_heard (Some _) = false

-- what was heard, with this event as it was answered
abbrev pub answered_next : State → Past → Event → Turn → Past
answered_next s past event answer = record { state = s; event = event; turn = answer } ∷ past

-- the snapshots are those of the listeners after the event, over the state after its commit
pub record Settled (root : Root) (s : State) (past : Past) (event : Event) (answer t : Turn)
    : Type 0 where
  pub told : List Told
  pub settles :
      Settles root (after s answer.commit) (stance_of (answered_next s past event answer))
      (λ id. listener id (answered_next s past event answer)) told
  pub is : t ≡ with_snapshots (after s answer.commit) answer told

-- nothing more comes of an event that isn't heard
abbrev pub SettlesAfter : Root → State → Past → Event → Turn → Bool → Turn → Type 0
SettlesAfter root s past event answer false t = t ≡ answer
SettlesAfter root s past event answer true t = Settled root s past event answer t

-- the keys of the documents in limbo behind an event that is heard
abbrev pub LimboBehind : Root → State → Past → Event → Turn → Bool → List Key → Type 0
LimboBehind root s past event t true keys =
    AreInLimbo root (after s t.commit) (stance_of (answered_next s past event t))
    (λ id. listener id (answered_next s past event t)) keys
LimboBehind root s past event t false keys = keys ≡ []

-- the turn of an event, but for the documents in limbo and for the requests that go out
pub record IsSettled (root : Root) (s : State) (past : Past) (event : Event) (t : Turn) : Type 0 where
  pub answer : Turn
  pub answers : Answers s past event answer
  pub settles : SettlesAfter root s past event answer (is_heard answer.refusal) t

-- lines that go out unless the event is refused
abbrev pub unless_refused : Option Refusal → List Line → List Line
unless_refused None lines = lines
unless_refused (Some refusal) lines = []

-- the requests on the stream of writes behind an event's turn: of the batches of the state after it, by what was then done there
abbrev pub batches_behind : State → Past → Event → Turn → List Line
batches_behind s past event t =
    unless_refused t.refusal
    (requests (steps_by event t.refusal (steps_of past)) (after s t.commit).batches)

-- the turn with lines behind it
abbrev pub with_lines : Turn → List Line → Turn
with_lines t lines = record t { lines = t.lines ++ lines }

-- the requests on the stream of listeners behind an event's turn, if it is heard and the stream is open
abbrev pub AsksBehind : State → Past → Event → Turn → List Line → Type 0
AsksBehind s past event t lines =
    AsksIf (is_heard t.refusal && is_watched (answered_next s past event t)) (after s t.commit)
    (answered_next s past event t) (resets_by event t.commit past) lines

-- The turn of an event: its answer, the snapshots, the documents in limbo then, the requests on the stream of listeners, and the
-- batches that go out.
pub record IsTurn (root : Root) (s : State) (past : Past) (event : Event) (t : Turn) : Type 0 where
  pub settled : Turn
  pub is_settled : IsSettled root s past event settled
  pub limbo : List Key
  pub in_limbo : LimboBehind root s past event settled (is_heard settled.refusal) limbo
  pub asked : List Line
  pub asks : AsksBehind s past event (with_limbo settled limbo) asked
  pub is : t ≡ with_lines (with_limbo settled limbo) (asked ++ batches_behind s past event settled)

-- what was heard, with this event, if it was
abbrev pub heard_then : Entry → Past → Past
heard_then entry past = if is_heard entry.turn.refusal then entry ∷ past else past
