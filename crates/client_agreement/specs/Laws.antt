-- The laws of what a client promises of an honest backend.
use Rattle.std.specs.Prelude.{◌≡◌, ℕ, false, List, ◌∷◌, ◌++◌, Option, Some}
use Rattle.std.specs.List.{Contains}
use Rattle.agreement.specs.Agrees.{Agrees}
use Rattle.agreement.specs.Allowed.{AreAllowed}
use Rattle.agreement.specs.Backend.{Key, Setting, Tuple}
use Rattle.agreement.specs.Client.{Client, run}
use Rattle.agreement.specs.Client as agreed
use Rattle.agreement.specs.Follows.{Known}
use Rattle.agreement.specs.History.{Write}
use Rattle.agreement.specs.NextRun.{next_run}
use Rattle.agreement.specs.Sound.{Live, Sound}
use Rattle.agreement.specs.Transcript.{Event}
use Rattle.client_events.specs.Spelled.{IsSpelledEvent}
use Rattle.client_events.specs.declared.event.Event as event
use Rattle.document_keys.specs.Names.{Root}
use Rattle.durable_state.specs.Documents.{is_named, documents_of}
use Rattle.host_api.specs.Host.{Files}
use Rattle.local_store.specs.Files.{FindsState}
use Rattle.durable_state.specs.State.{State, start}
use Rattle.queries.specs.Answer.{IsAnswer}
use Rattle.queries.specs.declared.target.Target.{Target}
use Rattle.client_turns.specs.Answers.{Answers}
use Rattle.client_turns.specs.Lines.{Told, snapshot}
use Rattle.client_turns.specs.Order.{AreHeard, now}
use Rattle.client_turns.specs.Past.{Entry, Past, Turn, listener}
use Rattle.client_turns.specs.Turns.{after}
use Rattle.value_model.specs.declared.timestamp.Timestamp.{Timestamp}
use Rattle.views.specs.Row.{Prints}
use Rattle.views.specs.Viewed.{Viewed}
use Rattle.views.specs.declared.raised.Raised.{Raised}
use Rattle.client_agreement.specs.Durable.{client_of, is_listener, setting_of}
use Rattle.client_agreement.specs.Honest.{AcknowledgesTruly, IsHonest, IsHonestWith}
use Rattle.client_agreement.specs.Standing.{AreSpelled, IsWellMade, StandsAs}
use Rattle.client_agreement.specs.Transcript.{transcript, transcript_with}

-- some allowed turns lead from the one client to one that stands for this
pub record Goes (s : Setting) (old : Client) (state : State) (past : Past) : Type 0 where
  pub turns : List agreed.Turn
  pub allowed : AreAllowed s turns old
  pub stands : StandsAs (run s turns old) state past

-- An event that is heard is a short list of allowed turns.
abbrev pub EventsAreTurns : Type 0
EventsAreTurns = (s : Setting) (root : Root) (first : State) (e : Entry) (past : Past) (c : Client)
    → s.listens ≡ is_listener → IsWellMade first → AreSpelled (e ∷ past) → AreHeard root first (e ∷ past)
    → AcknowledgesTruly s e.state e.turn.commit
    → StandsAs c (now first past) past → Goes s c (now first (e ∷ past)) (e ∷ past)

-- The state that files find is well made.
abbrev pub FoundStatesAreWellMade : Type 0
FoundStatesAreWellMade = (files : Files) (s : State) → FindsState files s → IsWellMade s

-- what is given of a run: its first state is sound, and what is heard is honest
pub record IsHonestRun (s : Setting) (root : Root) (first : State) (version : List Event → ℕ) (past : Past)
    : Type 0 where
  pub well_made : IsWellMade first
  pub sound : Sound s (client_of first)
  pub spelled : AreSpelled past
  pub heard : AreHeard root first past
  pub honest : IsHonest s version past

-- a client that stands for this is sound, and what it keeps beside the disk is right
pub record Keeps (s : Setting) (version : List Event → ℕ) (state : State) (past : Past) : Type 0 where
  pub client : Client
  pub stands : StandsAs client state past
  pub sound : Sound s client
  pub live : Live s version client

-- Each event that is heard keeps both.
abbrev pub SoundnessIsKept : Type 0
SoundnessIsKept = (writes : List Write) (known : List Tuple) (root : Root) (first : State)
    (version : List Event → ℕ) (e : Entry) (past : Past)
    → IsHonestRun (setting_of writes root known) root first version (e ∷ past)
    → Keeps (setting_of writes root known) version (now first past) past
    → Keeps (setting_of writes root known) version (now first (e ∷ past)) (e ∷ past)

-- A snapshot agrees with the backend's documents at the last read time, but for what unfinished writes touch: it
-- has the rows of the answer of its query over the local documents, and this agrees.
pub record SnapshotAgrees (s : Setting) (state : State) (query : Target) (raised : Raised) : Type 0 where
  pub answer : List Key
  pub is_answer : IsAnswer query s.root (documents_of state) answer
  pub rows : Prints (documents_of state) answer raised.rows
  pub agrees : Agrees s (is_named state) (client_of state) (documents_of state) query answer

-- The snapshot is that of a listener, its line has the last read time, and it agrees.
pub record ListenerAgrees (s : Setting) (past : Past) (state : State) (read_time : Option Timestamp) (told : Told)
    : Type 0 where
  pub view : Viewed
  pub listens : listener told.id past ≡ Some view
  pub read : read_time ≡ state.last_read
  pub agrees : SnapshotAgrees s state view.target told.raised

-- each snapshot that isn't from the cache agrees, at the read time that its line has
abbrev pub SnapshotsAgree : Type 0
SnapshotsAgree = (writes : List Write) (known : List Tuple) (root : Root) (first : State)
    (version : List Event → ℕ) (e : Entry) (past : Past)
    → IsHonestRun (setting_of writes root known) root first version (e ∷ past)
    → (number : ℕ) (read_time : Option Timestamp) (told : Told)
    → Contains e.turn.lines (snapshot number read_time told) → told.raised.from_cache ≡ false
    → ListenerAgrees (setting_of writes root known) (e ∷ past) (after e.state e.turn.commit) read_time told

-- the state after a first part of what was heard is sound for the next run, with the tuples of all of it
abbrev pub StatesStaySound : Type 0
StatesStaySound = (writes : List Write) (known : List Tuple) (root : Root) (first : State)
    (version : List Event → ℕ) (later past : Past)
    → IsHonestRun (setting_of writes root known) root first version (later ++ past)
    → Sound (next_run (setting_of writes root known) (transcript (later ++ past)))
    (client_of (now first past))

-- And so is the state after the commit of one event more, if that makes one, before anything has gone out
-- behind it.
abbrev pub CommitsStaySound : Type 0
CommitsStaySound = (writes : List Write) (known : List Tuple) (root : Root) (first : State)
    (version : List Event → ℕ) (past : Past) (e : event.Event) (answer : Turn)
    → IsHonestRun (setting_of writes root known) root first version past
    → IsSpelledEvent e → Answers (now first past) past e answer
    → AcknowledgesTruly (setting_of writes root known) (now first past) answer.commit
    → IsHonestWith (setting_of writes root known) version past e answer
    → Sound (next_run (setting_of writes root known) (transcript_with past e answer))
    (client_of (after (now first past) answer.commit))

-- What is known of tokens stays known, whatever is sent and heard then: behind more events, and behind the
-- commit of one more.
pub record TokensStayKnown : Type 0 where
  pub behind : (s : Setting) (tuple : Tuple) (later past : Past) → Known s (transcript past) tuple
      → Known s (transcript (later ++ past)) tuple
  pub between : (s : Setting) (tuple : Tuple) (past : Past) (e : event.Event) (answer : Turn)
      → Known s (transcript past) tuple → Known s (transcript_with past e answer) tuple

-- an empty store is sound for each backend
abbrev pub StartIsSound : Type 0
StartIsSound = (s : Setting) → Sound s (client_of start)
