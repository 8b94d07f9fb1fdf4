-- What a call that handles one line does to the client, the output and the files.
use Rattle.std.specs.Prelude.{◌≡◌, ◌≢◌, ◌⊎◌, ℕ, List, [], ◌++◌, IsTrue, Bool, Option, Result, IsErrOf}
use Rattle.host_api.specs.Counts.{RisesAt}
use Rattle.host_api.specs.Host.{Files, View, IsPart, Spans}
use Rattle.document_keys.specs.Names.{Root}
use Rattle.record_codec.specs.declared.commit.Commit.{Commit}
use Rattle.local_store.specs.Files.{FindsState}
use Rattle.local_store.specs.State.{State}
use Rattle.line_reader.specs.declared.reading.Reading.{Reading}
use Rattle.client_turns.specs.Turns.{after}
use Rattle.client_turns.specs.Past.{Past}
use Rattle.sync_engine.specs.Standing.{Kept, StandsFor}
use Rattle.client_run.specs.Printed.{printed}
use Rattle.client_run.specs.Turn.{LineTurn, IsLineTurn, CommitsNext, and_heard}
use Rattle.client_run.specs.declared.turn_fault.TurnFault.{TurnFault}
use Rattle.client_run.specs.declared.turn_fault.TurnFault.TheVariants as fault
use Rattle.client_run.specs.declared.status.Status.{Status}
use Rattle.client_run.specs.declared.status.Status.TheVariants as status

-- a line as it comes: the state before it, what the client has heard, what it is, and its number
pub record Coming : Type 0 where
  pub root : Root
  pub state : State
  pub past : Past
  pub reading : Reading
  pub number : ℕ

abbrev pub coming : Root → State → Past → Reading → ℕ → Coming
coming root s past reading number =
    record { root = root; state = s; past = past; reading = reading; number = number }

-- the line has this turn
abbrev pub HasTurn : Coming → LineTurn → Type 0
HasTurn line t = IsLineTurn line.root line.state line.past line.reading t

-- what the turn writes
abbrev pub text_of_turn : Coming → LineTurn → List ℕ
text_of_turn line t = printed line.root line.number t

-- The line was handled: the client stands for what was heard and for the state after it, and its lines went out whole.
pub record IsHandled (line : Coming) (client : Kept) (tells_out : Bool) (old new : List ℕ) : Type 0 where
  pub turn : LineTurn
  pub is_turn : HasTurn line turn
  pub stands :
      StandsFor client (after line.state turn.commit) (and_heard line.state line.reading turn line.past)
  pub out : IsTrue tells_out → new ≡ old ++ text_of_turn line turn

-- the files find the state after the line's commit
pub record FindsCommit (line : Coming) (files : Files) : Type 0 where
  pub commit : Option Commit
  pub commits : CommitsNext line.state line.past line.reading commit
  pub finds : FindsState files (after line.state commit)

-- a part of the line's lines went out, and the files find the state after its commit
pub record WentOut (line : Coming) (out o : List ℕ) (files : Files) : Type 0 where
  pub turn : LineTurn
  pub is_turn : HasTurn line turn
  pub part : IsPart (text_of_turn line turn) out o
  pub finds : FindsState files (after line.state turn.commit)

-- During a turn a crash finds the state from before it or after its commit at the output from before
-- it, or the state after its commit at the output with a part of its lines.
abbrev pub InTurn : Coming → List ℕ → List ℕ → Files → Type 0
InTurn line out o files =
    ((o ≡ out) × (FindsState files line.state ⊎ FindsCommit line files)) ⊎ WentOut line out o files

pub record Turned (line : Coming) (old new : View) : Type 0 where
  pub crash : (c : Files) → new.may_leave c → FindsState c line.state ⊎ FindsCommit line c
  pub time : Spans old new (InTurn line old.out)

-- the output has a part of the lines of the turn, which has some
pub record WrotePart (line : Coming) (old new : List ℕ) : Type 0 where
  pub turn : LineTurn
  pub is_turn : HasTurn line turn
  pub some : text_of_turn line turn ≢ []
  pub part : IsPart (text_of_turn line turn) old new

-- At a sink fault there were lines, and a part of them went out; at any other fault none.
abbrev pub Stopped : Coming → TurnFault → List ℕ → List ℕ → Type 0
Stopped line fault.SinkFault old new = WrotePart line old new
Stopped line _ old new = new ≡ old

-- each count rose just where its fault is told
pub record TurnCounts (result : Result (Unit {0}) TurnFault) (old new : View) : Type 0 where
  pub disk : RisesAt (IsErrOf result fault.DiskFault) old.disk_faults new.disk_faults
  pub sink : RisesAt (IsErrOf result fault.SinkFault) old.sink_faults new.sink_faults

-- how a run ends that meets this fault
abbrev pub status_of : TurnFault → Status
status_of fault.DiskFault = status.DiskFault
status_of fault.SinkFault = status.SinkFault
status_of fault.NoMemory = status.NoMemory
