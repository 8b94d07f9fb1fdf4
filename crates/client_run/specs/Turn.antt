-- What one line of input does: why it is refused, at most one commit, and the lines that answer it.
use Rattle.std.specs.Prelude.{◌≡◌, List, [], Option, Some, None, option_map}
use Rattle.document_keys.specs.Names.{Root}
use Rattle.limbo_resolver.specs.Limbo.{Key}
use Rattle.record_codec.specs.declared.commit.Commit.{Commit}
use Rattle.local_store.specs.State.{State}
use Rattle.client_events.specs.declared.event.Event.{Event}
use Rattle.line_reader.specs.declared.reading.Reading.{Reading}
use Rattle.line_reader.specs.declared.reading.Reading.TheVariants.{Line as an_event, Refused}
use Rattle.line_reader.specs.declared.refusal.Refusal.{Refusal as Unread}
use Rattle.client_turns.specs.declared.refusal.Refusal.{Refusal}
use Rattle.client_turns.specs.Answers.{Answers}
use Rattle.client_turns.specs.Lines.{Line}
use Rattle.client_turns.specs.Past.{Turn, Entry, Past}
use Rattle.client_turns.specs.Turn.{IsTurn, heard_then}

-- why a line is refused: it is no event, or the client refuses its event
pub data Cause : Type 0 where
  unread : Unread → Cause
  unheard : Refusal → Cause

-- why it is refused, at most one commit, the lines that answer it, and the keys of the documents that are in limbo then
pub record LineTurn : Type 0 where
  pub cause : Option Cause
  pub commit : Option Commit
  pub lines : List Line
  pub limbo : List Key

-- a line that is no event does nothing
abbrev pub unread_turn : Unread → LineTurn
unread_turn refusal = record { cause = Some (unread refusal); commit = None; lines = []; limbo = [] }

-- the turn of an event, as that of its line
abbrev pub of_event : Turn → LineTurn
of_event t = record { cause = option_map unheard t.refusal; commit = t.commit; lines = t.lines; limbo = t.limbo }

-- the line's event has the turn
pub record IsEventTurn (root : Root) (s : State) (past : Past) (e : Event) (t : LineTurn) : Type 0 where
  pub turn : Turn
  pub is_turn : IsTurn root s past e turn
  pub is : t ≡ of_event turn

-- the turn of a line, from the state before it and what the client has heard
abbrev pub IsLineTurn : Root → State → Past → Reading → LineTurn → Type 0
IsLineTurn root s past (Refused refusal) t = t ≡ unread_turn refusal
IsLineTurn root s past (an_event e) t = IsEventTurn root s past e t

-- the commit of a line's turn, if it makes one, which its snapshots say nothing of
abbrev pub CommitsNext : State → Past → Reading → Option Commit → Type 0
CommitsNext s past (Refused refusal) commit = commit ≡ None
CommitsNext s past (an_event e) commit = (answer : Turn) × Answers s past e answer × (commit ≡ answer.commit)

-- the line makes a commit
pub record CommitsOne (s : State) (past : Past) (reading : Reading) : Type 0 where
  pub made : Commit
  pub commits : CommitsNext s past reading (Some made)

-- why the client refused the event of a line, if it did
abbrev pub refusal_in : Option Cause → Option Refusal
refusal_in None = None
refusal_in (Some (unread refusal)) = None
refusal_in (Some (unheard refusal)) = Some refusal

-- the event of a line, with its turn
abbrev pub entry_of : State → Event → LineTurn → Entry
entry_of s e t = record {
  state = s;
  event = e;
  turn = record { refusal = refusal_in t.cause; commit = t.commit; lines = t.lines; limbo = t.limbo };
}

-- what was heard, with this line, if it was heard
abbrev pub and_heard : State → Reading → LineTurn → Past → Past
and_heard s (Refused refusal) t past = past
and_heard s (an_event e) t past = heard_then (entry_of s e t) past
