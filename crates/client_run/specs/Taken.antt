-- What is handed out for a line, before it is printed.
use Rattle.std.specs.Prelude.{◌≡◌, List, Option, Some, IfSome}
use Rattle.std.specs.List.{AllZip}
use Rattle.host_api.specs.Host.{View}
use Rattle.record_codec.specs.declared.commit.Commit.{Commit}
use Rattle.line_reader.specs.declared.reading.Reading.{Reading}
use Rattle.local_store.specs.Files.{Moves}
use Rattle.local_store.specs.State.{State}
use Rattle.client_turns.specs.Turns.{after}
use Rattle.client_turns.specs.Lines.{Line}
use Rattle.client_turns.specs.Past.{Turn, Past}
use Rattle.sync_engine.specs.Standing.{Kept, StandsFor}
use Rattle.sync_engine.specs.Telling.{IsOutcome, IsShown}
use Rattle.sync_engine.specs.declared.out.Out.{Out}
use Rattle.sync_engine.specs.declared.out.Outcome.{Outcome}
use Rattle.client_run.specs.Turn.{LineTurn, IsLineTurn, CommitsNext, and_heard, of_event, unread_turn}
use Rattle.client_run.specs.declared.taken.Taken.{Taken}
use Rattle.client_run.specs.declared.taken.Taken.TheVariants.{Unread, Heard}

-- the outcome is that of an event with this turn
pub record IsHeard (handed : Outcome) (client : Kept) (t : LineTurn) : Type 0 where
  pub turn : Turn
  pub is : t ≡ of_event turn
  pub outcome : IsOutcome handed client turn

-- what was handed out is the line's turn, over what the client keeps
abbrev pub Tells : Taken → Kept → LineTurn → Type 0
Tells (Unread refusal) client t = t ≡ unread_turn refusal
Tells (Heard outcome) client t = IsHeard outcome client t

-- the client took the turn of the line, and stands for it
pub record IsTaken (s : State) (past : Past) (reading : Reading) (taken : Taken) (client : Kept)
    : Type 0 where
  pub turn : LineTurn
  pub is_turn : IsLineTurn client.root s past reading turn
  pub stands : StandsFor client (after s turn.commit) (and_heard s reading turn past)
  pub tells : Tells taken client turn

-- a crash finds the state before the line, or the one after its commit, if it makes one
pub record MovesLine (s : State) (past : Past) (reading : Reading) (old new : View) : Type 0 where
  pub commit : Option Commit
  pub commits : IfSome commit (λ made. CommitsNext s past reading (Some made))
  pub moves : Moves s (after s commit) old new

-- what was handed out is the lines
abbrev pub AreShown : Kept → List Out → List Line → Type 0
AreShown client outs lines = AllZip (IsShown client) outs lines
