-- A run over the files of a store.
use Rattle.std.specs.Prelude.{◌≡◌, ◌≤◌, ℕ, List, length, IsTrue}
use Rattle.host_api.specs.Host.{Files, View}
use Rattle.client_run.specs.Crash.{Crashes, state_after}
use Rattle.client_run.specs.History.{History}
use Rattle.client_run.specs.Output.{Call, IsRun, EndsAs}
use Rattle.local_store.specs.Files.{FindsState}
use Rattle.client_run.specs.declared.status.Status.{Status}
use Rattle.client_run.specs.declared.status.Status.TheVariants as ended

-- Some items were handled, one after another; the history has what they are, and their turns. The source has these bytes left,
-- and it counted so many answers before and after.
pub record Ran (call : Call) (status : Status) (left : List ℕ) (before after : ℕ) (old new : View) : Type 0 where
  pub history : History
  pub run : IsRun call history
  pub within : length history ≤ length call.items
  pub ends : EndsAs status call history left before after new.out
  pub crash : IsTrue call.tells_out → Crashes status call history left old new

-- So many items were handled, and the files find the state after their commits.
pub record LeavesAll (count : ℕ) (call : Call) (files : Files) : Type 0 where
  pub history : History
  pub run : IsRun call history
  pub many : length history ≡ count
  pub finds : FindsState files (state_after call history)

-- At Done and Budget the files, as they read, have every commit of the run.
abbrev pub Kept : Status → Call → Files → Type 0
Kept ended.Done call files = LeavesAll (length call.items) call files
Kept ended.Budget call files = LeavesAll call.budget call files
Kept _ call files = Unit {0}
