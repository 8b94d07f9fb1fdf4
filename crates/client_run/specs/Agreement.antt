-- Clause *Agreement* of a run over the files of a store: where what is heard follows a backend's documents, each snapshot that
-- isn't from the cache agrees with them, and what stands on the disk at any moment is sound for the next run.
use Rattle.std.specs.Prelude.{◌≡◌, ℕ, IsTrue, List, [], ◌∷◌, ◌++◌, false, Option}
use Rattle.std.specs.List.{Contains}
use Rattle.agreement.specs.Backend.{Setting, Tuple}
use Rattle.agreement.specs.Follows.{Known, tuples}
use Rattle.agreement.specs.History.{Write}
use Rattle.agreement.specs.NextRun.{next_run}
use Rattle.agreement.specs.Sound.{Sound}
use Rattle.agreement.specs.Transcript as agreed
use Rattle.client_agreement.specs.Durable.{client_of, setting_of}
use Rattle.client_agreement.specs.Honest.{AcknowledgesTruly, IsHonest, IsHonestWith}
use Rattle.client_agreement.specs.Laws.{ListenerAgrees}
use Rattle.client_agreement.specs.Transcript.{transcript, transcript_with}
use Rattle.client_events.specs.Spelled.{IsSpelledEvent}
use Rattle.client_events.specs.declared.event.Event.{Event}
use Rattle.disk_journal.specs.File.{AreBlank}
use Rattle.document_keys.specs.Names.{Root}
use Rattle.host_api.specs.Host.{Files, Spans, View}
use Rattle.line_reader.specs.Reading.{AreRead}
use Rattle.line_reader.specs.declared.reading.Reading.TheVariants.{Line as an_event}
use Rattle.local_store.specs.Files.{FindsState}
use Rattle.local_store.specs.State.{State}
use Rattle.client_turns.specs.Answers.{Answers}
use Rattle.client_turns.specs.Lines.{Told, snapshot}
use Rattle.client_turns.specs.Past.{Past, Turn}
use Rattle.client_turns.specs.Turns.{after}
use Rattle.value_model.specs.declared.timestamp.Timestamp.{Timestamp}
use Rattle.client_run.specs.Crash.{state_after}
use Rattle.client_run.specs.History.{Handled, History, heard, readings_of}
use Rattle.client_run.specs.Output.{Call, IsRun}

-- A backend: its writes, newest first; what each token stood for that earlier runs got of it; and the time that each filter
-- speaks of.
pub record Backend : Type 0 where
  pub writes : List Write
  pub known : List Tuple
  pub version : List agreed.Event → ℕ

-- what is given of it, for a database
abbrev pub setting : Backend → Root → Setting
setting backend root = setting_of backend.writes root backend.known

-- what was heard is honest
abbrev pub IsHonestPast : Backend → Root → Past → Type 0
IsHonestPast backend root past = IsHonest (setting backend root) backend.version past

-- a state is sound for a run
abbrev pub IsSoundState : Backend → Root → State → Type 0
IsSoundState backend root s = Sound (setting backend root) (client_of s)

-- and for the run after one of which this was sent and heard
abbrev pub IsSoundBehind : Backend → Root → List agreed.Event → State → Type 0
IsSoundBehind backend root x s = Sound (next_run (setting backend root) x) (client_of s)

-- files find a state that is sound for a run
pub record FindsSoundState (backend : Backend) (root : Root) (files : Files) : Type 0 where
  pub state : State
  pub finds : FindsState files state
  pub sound : IsSoundState backend root state

-- the state that the files read is sound at the start, and what a crash may leave then finds one that is
pub record StartsSound (backend : Backend) (root : Root) (first : State) (v : View) : Type 0 where
  pub reads : IsSoundState backend root first
  pub leaves : (files : Files) → v.may_leave files → FindsSoundState backend root files

-- each snapshot of the line that isn't from the cache agrees
abbrev pub LineAgrees : Backend → Root → Handled → History → Type 0
LineAgrees backend root line history = (number : ℕ) (read_time : Option Timestamp) (told : Told)
    → Contains line.turn.lines (snapshot number read_time told) → told.raised.from_cache ≡ false
    → ListenerAgrees (setting backend root) (heard (line ∷ history)) (after line.state line.turn.commit) read_time told

-- What files find that a crash leaves: a state that was found at the start; the state behind some handled items, which is sound
-- with their tuples where what they heard is honest; or the state behind the commit of the next item's event, from which nothing
-- has gone out yet, which is sound where that is honest too.
pub data FindsSound (backend : Backend) (call : Call) (files : Files) : Type 0 where
  at_first : FindsSoundState backend call.root files → FindsSound backend call files
  behind : (history : History) → IsRun call history → FindsState files (state_after call history)
      → (IsHonestPast backend call.root (heard history)
      → IsSoundBehind backend call.root (transcript (heard history)) (state_after call history))
      → FindsSound backend call files
  between : (history : History) (e : Event) (answer : Turn) → IsRun call history
      → AreRead call.root call.items (readings_of history ++ an_event e ∷ [])
      → Answers (state_after call history) (heard history) e answer
      → FindsState files (after (state_after call history) answer.commit)
      → (IsHonestPast backend call.root (heard history)
      → AcknowledgesTruly (setting backend call.root) (state_after call history) answer.commit
      → IsHonestWith (setting backend call.root) backend.version (heard history) e answer
      → IsSoundBehind backend call.root (transcript_with (heard history) e answer) (after (state_after call history) answer.commit))
      → FindsSound backend call files

-- Where the run starts sound: the snapshots of each line agree, where what was heard up to it is honest; the state behind any
-- first items is sound, and so is that behind the commit of the next one, where what these heard is honest; and at each moment,
-- and at the end, what a crash leaves is one of these. Which items those are, `Crash.antt` says: the handled ones, and at most
-- one more.
pub record Agrees (backend : Backend) (call : Call) (old new : View) : Type 0 where
  pub snapshots : (line : Handled) (history : History) → IsRun call (line ∷ history)
      → IsHonestPast backend call.root (heard (line ∷ history)) → LineAgrees backend call.root line history
  pub handled : (history : History) → IsRun call history → IsHonestPast backend call.root (heard history)
      → IsSoundBehind backend call.root (transcript (heard history)) (state_after call history)
  pub next : (history : History) (e : Event) (answer : Turn) → IsRun call history → IsSpelledEvent e
      → Answers (state_after call history) (heard history) e answer
      → IsHonestPast backend call.root (heard history)
      → AcknowledgesTruly (setting backend call.root) (state_after call history) answer.commit
      → IsHonestWith (setting backend call.root) backend.version (heard history) e answer
      → IsSoundBehind backend call.root (transcript_with (heard history) e answer)
      (after (state_after call history) answer.commit)
  pub moments : IsTrue call.tells_out → Spans old new (λ o files. FindsSound backend call files)
  pub at_end : IsTrue call.tells_out → (files : Files) → new.may_leave files → FindsSound backend call files

-- with each backend for which the run starts sound
abbrev pub AgreesWithAll : Call → View → View → Type 0
AgreesWithAll call old new = (backend : Backend) → StartsSound backend call.root call.first old → Agrees backend call old new

-- the backend as the run after one sees it, of which this was sent and heard
abbrev pub backend_behind : Backend → Root → List agreed.Event → Backend
backend_behind backend root x = record backend { known = tuples (setting backend root) x }

-- What files find that is sound behind a run is so at the start of the next one, whichever state they are said to find; what is
-- sound with some tuples is sound with more; and what blank files find is sound for each backend.
pub record RunsChain : Type 0 where
  pub next : (backend : Backend) (root : Root) (x : List agreed.Event) (files : Files) (s : State)
      → FindsState files s → IsSoundBehind backend root x s
      → FindsSoundState (backend_behind backend root x) root files
  pub one : (backend : Backend) (root : Root) (files : Files) (s : State)
      → FindsSoundState backend root files → FindsState files s → IsSoundState backend root s
  pub more : (backend : Backend) (root : Root) (x more : List agreed.Event) (s : State)
      → ((tuple : Tuple) → Known (setting backend root) x tuple → Known (setting backend root) more tuple)
      → IsSoundBehind backend root x s → IsSoundBehind backend root more s
  pub blank : (backend : Backend) (root : Root) (files : Files) → AreBlank files → FindsSoundState backend root files
