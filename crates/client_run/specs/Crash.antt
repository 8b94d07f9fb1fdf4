-- Clause *Crash* of a run over the files of a store: what a crash leaves at each moment.
use Rattle.std.specs.Prelude.{◌≡◌, ◌⊎◌, ℕ, ◌+◌, ◌<◌, ◌≤◌, List, [], ◌∷◌, ◌++◌, length, Option}
use Rattle.host_api.specs.Host.{Files, View, Spans, Stays}
use Rattle.record_codec.specs.declared.commit.Commit.{Commit}
use Rattle.local_store.specs.Files.{FindsState}
use Rattle.local_store.specs.State.{State}
use Rattle.line_printer.specs.Reported.{ReportedWithin}
use Rattle.line_reader.specs.Reading.{AreRead}
use Rattle.line_reader.specs.Spelled.{IsSpelledReading}
use Rattle.line_reader.specs.declared.reading.Reading.{Reading}
use Rattle.client_turns.specs.Turns.{after}
use Rattle.client_run.specs.History.{History, after_all, commits_of, heard, readings_of}
use Rattle.client_run.specs.Output.{Call, IsRun, TookNothing}
use Rattle.client_run.specs.Turn.{CommitsNext}
use Rattle.client_run.specs.declared.status.Status.{Status}
use Rattle.client_run.specs.declared.status.Status.TheVariants as ended

-- Every pair of files that a crash now may leave finds some state; what the files read is one of
-- these pairs.
pub record Keeps (v : View) : Type 0 where
  pub finds : (c : Files) → v.may_leave c → (s : State) × FindsState c s
  pub reads : v.may_leave v.bytes

-- the state after the commits of these lines
abbrev pub state_after : Call → History → State
state_after call history = after_all call.first (commits_of history)

-- how many commits these lines made
abbrev pub commits_in : Call → History → ℕ
commits_in call history = length (commits_of history)

-- every commit of the handled items
abbrev pub FindsHandled : Call → History → Files → Type 0
FindsHandled call history files = FindsState files (state_after call history)

-- these, and the commit of the next item
pub record FindsNext (call : Call) (history : History) (files : Files) : Type 0 where
  pub reading : Reading
  pub read : AreRead call.root call.items (readings_of history ++ reading ∷ [])
  pub spelled : IsSpelledReading reading
  pub commit : Option Commit
  pub commits : CommitsNext (state_after call history) (heard history) reading commit
  pub finds : FindsState files (after (state_after call history) commit)

-- one or the other, and no more than so many items were taken for it
abbrev pub FindsWithin : ℕ → Call → History → Files → Type 0
FindsWithin most call history files =
    ((length history ≤ most) × FindsHandled call history files)
    ⊎ ((length history < most) × FindsNext call history files)

-- What a crash leaves at one moment, with this output standing then: the files find the state after
-- the commits of the first items, and at most the commit of the next one besides. The number of that
-- state is at least as many more than at the start as the first items made commits, and no whole line
-- that was written since the run began reports a number above that.
pub record Survives (most : ℕ) (call : Call) (out : List ℕ) (files : Files) : Type 0 where
  pub history : History
  pub run : IsRun call history
  pub finds : FindsWithin most call history files
  pub number : (state_after call history).number ≡ call.first.number + commits_in call history
  pub since : List ℕ
  pub output : out ≡ call.out ++ since
  pub reported : ReportedWithin (call.first.number + commits_in call history) since

-- What a crash finds at the end: every commit of the handled items, and besides them at most that
-- of an item that met a fault.
abbrev pub FindsAtEnd : Status → Call → History → Files → Type 0
FindsAtEnd ended.DiskFault call h files = FindsHandled call h files ⊎ FindsNext call h files
FindsAtEnd ended.SinkFault call h files = FindsHandled call h files ⊎ FindsNext call h files
FindsAtEnd ended.NoMemory call h files = FindsHandled call h files ⊎ FindsNext call h files
FindsAtEnd _ call h files = FindsHandled call h files

-- a pair that a crash could leave at the start, with the output as it stood then
abbrev pub IsAsBefore : View → List ℕ → Files → Type 0
IsAsBefore old out files = (out ≡ old.out) × old.may_leave files

-- The two opening syncs were done at this time, from the start to the end. Up to it a crash left a
-- pair that it could leave at the start; at each moment from it on it leaves what `Survives` says, of
-- the handled items and at most one more.
pub record Synced (how : Status) (call : Call) (history : History) (old new : View) : Type 0 where
  pub time : ℕ
  pub from : old.moment ≤ time
  pub to : time ≤ new.moment
  pub before : Spans old new (λ o c. IsAsBefore old o c ⊎ new.left_since time o c)
  pub later : (o : List ℕ) (c : Files) → new.left_since time o c → Survives (length history + 1) call o c
  pub at_end : (c : Files) → new.may_leave c → FindsAtEnd how call history c

-- An opening sync failed, or there was no memory before it: nothing was handled or taken, and a
-- crash leaves a pair that it could leave at the start.
pub record Unsynced (how : Status) (call : Call) (history : History)
    (left : List ℕ) (old new : View) : Type 0 where
  pub stopped : (how ≡ ended.DiskFault) ⊎ (how ≡ ended.NoMemory)
  pub nothing : TookNothing call history left
  pub before : Stays old new

-- what a crash may leave at each moment of a run
abbrev pub Crashes : Status → Call → History → List ℕ → View → View → Type 0
Crashes status call history left old new =
    Synced status call history old new ⊎ Unsynced status call history left old new
