-- A run of lines: what each of them is, and its turn.
use Rattle.std.specs.Prelude.{◌≡◌, ℕ, ◌+◌, List, [], ◌∷◌, ◌++◌, length, fold, Option, Some, None}
use Rattle.document_keys.specs.Names.{Root}
use Rattle.record_codec.specs.declared.commit.Commit.{Commit}
use Rattle.local_store.specs.State.{State, committed}
use Rattle.line_reader.specs.declared.reading.Reading.{Reading}
use Rattle.client_turns.specs.Turns.{after}
use Rattle.client_turns.specs.Past.{Past}
use Rattle.client_run.specs.Printed.{printed}
use Rattle.client_run.specs.Turn.{LineTurn, IsLineTurn, and_heard}

-- a line that was handled: the state before it, what it is, and its turn
pub record Handled : Type 0 where
  pub state : State
  pub reading : Reading
  pub turn : LineTurn

-- lines of a run, the newest first
abbrev pub History : Type 0
History = List Handled

-- the state after the lines so far
abbrev pub now : State → History → State
now first [] = first
now first (line ∷ history) = after line.state line.turn.commit

-- what the client has heard of them
abbrev pub heard : History → Past
heard [] = []
heard (line ∷ history) = and_heard line.state line.reading line.turn (heard history)

-- the line comes next: it has its turn in the state after the others
pub record IsNext (root : Root) (first : State) (history : History) (line : Handled) : Type 0 where
  pub state : line.state ≡ now first history
  pub turn : IsLineTurn root line.state (heard history) line.reading line.turn

-- each line came next after those before it
abbrev pub AreTurns : Root → State → History → Type 0
AreTurns root first [] = Unit {0}
AreTurns root first (line ∷ history) = AreTurns root first history × IsNext root first history line

-- what the lines are, in order
abbrev pub readings_of : History → List Reading
readings_of [] = []
readings_of (line ∷ history) = readings_of history ++ line.reading ∷ []

-- what is written, in order; lines are numbered from 1
abbrev pub output_of : Root → History → List ℕ
output_of root [] = []
output_of root (line ∷ history) = output_of root history ++ printed root (length history + 1) line.turn

-- the commit of a turn, if it makes one
abbrev pub made : Option Commit → List Commit
made None = []
made (Some commit) = commit ∷ []

-- the commits of the lines so far, in order
abbrev pub commits_of : History → List Commit
commits_of [] = []
commits_of (line ∷ history) = commits_of history ++ made line.turn.commit

-- the state after these commits
abbrev pub after_all : State → List Commit → State
after_all s commits = fold committed s commits
