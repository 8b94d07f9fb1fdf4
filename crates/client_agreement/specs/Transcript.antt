-- What was sent and heard on the streams of listeners of a run, read off what the client has heard, as the
-- theorem of agreement has it (google.firestore.v1.Listen).
use Rattle.std.specs.Prelude.{Bool, ◌&&◌, if◌then◌else◌, false, List, [], ◌∷◌, fold}
use Rattle.std.specs.List.{list_any}
use Rattle.std.specs.Ordering.{int_eq}
use Rattle.agreement.specs.Backend.{Id}
use Rattle.agreement.specs.Streams.{message_of}
use Rattle.agreement.specs.Transcript.{Event, Asked, Cut, Heard, Request, Unasked}
use Rattle.client_events.specs.declared.event.Event as event
use Rattle.client_turns.specs.Asking.{resets_by}
use Rattle.client_turns.specs.Lines.{Line, add, remove}
use Rattle.client_turns.specs.Past.{Past, Turn}
use Rattle.client_turns.specs.Turn.{is_heard}
use Rattle.client_turns.specs.Watching.{WatchStep, closes, hears, opens, step_by, step_of}
use Rattle.target_cache.specs.declared.row.Row.{Row}
use Rattle.client_agreement.specs.Durable.{tuple_in}

-- the add request of a target as its row stands: it resumes from what the row holds
abbrev pub request_of : Row → Request
request_of row = record { query = row.target; resume = tuple_in row }

-- an add request goes out
abbrev pub asked_by : List Event → Line → List Event
asked_by x (add t row) = Asked t (request_of row) ∷ x
asked_by x _ = x

-- the add requests among these lines, behind what was done before
abbrev pub asked_in : List Line → List Event → List Event
asked_in lines x = fold asked_by x lines

-- the line is the remove request of the id
abbrev pub removes : Id → Line → Bool
removes id (remove t) = int_eq t id
removes id _ = false

-- a remove request of the id is among these lines
abbrev pub is_removed_in : List Line → Id → Bool
is_removed_in lines id = list_any (removes id) lines

-- What came: an open or a close, or a message, right behind which go the remove requests of the targets that it
-- resets.
abbrev pub came_by : WatchStep → (Id → Bool) → List Event → List Event
came_by opens removed x = Cut ∷ x
came_by closes removed x = Cut ∷ x
came_by (hears response) removed x = Unasked removed ∷ Heard (message_of response) ∷ x
came_by _ removed x = x

-- All that was sent and heard, the newest first. Of the requests of one event the removes go out first, as
-- one.
abbrev pub transcript : Past → List Event
transcript [] = []
transcript (e ∷ past) =
    asked_in e.turn.lines
    (Unasked (is_removed_in e.turn.lines)
    ∷ came_by (step_of e) (λ t. resets_by e.event e.turn.commit past t && is_removed_in e.turn.lines t)
    (transcript past))

-- what came with an event, without any request
abbrev pub came_alone : WatchStep → List Event → List Event
came_alone opens x = Cut ∷ x
came_alone closes x = Cut ∷ x
came_alone (hears response) x = Heard (message_of response) ∷ x
came_alone _ x = x

-- the same, with an event as it was answered, if it is heard; nothing has gone out behind it yet
abbrev pub transcript_with : Past → event.Event → Turn → List Event
transcript_with past e answer = if is_heard answer.refusal
    then came_alone (step_by e answer.refusal) (transcript past) else transcript past
