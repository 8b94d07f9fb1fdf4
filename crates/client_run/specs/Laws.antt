-- Laws of runs.
use Rattle.std.specs.Prelude.{◌≡◌, ℕ, ◌+◌, ◌<◌, ◌≤◌, ◌^◌, length, Some, IfSome}
use Rattle.document_keys.specs.Names.{Root}
use Rattle.line_printer.specs.Reported.{ReportedWithin}
use Rattle.line_reader.specs.Spelled.{IsSpelledReading}
use Rattle.line_reader.specs.declared.reading.Reading.{Reading}
use Rattle.local_store.specs.State.{State, most_commits}
use Rattle.client_turns.specs.Turns.{after}
use Rattle.client_turns.specs.Past.{Past, listener}
use Rattle.client_turns.specs.Writing.{first_batch}
use Rattle.target_cache.specs.Cache.{id_at}
use Rattle.views.specs.Viewed.{Viewed}
use Rattle.client_turns.specs.Order.{IsInOrder}
use Rattle.client_run.specs.History.{AreTurns, History, heard, readings_of}
use Rattle.client_run.specs.Printed.{printed}
use Rattle.client_run.specs.Turn.{IsLineTurn, LineTurn}

-- lines have one history: the readings and the state before them determine every turn
abbrev pub AHistoryIsOne : Type 0
AHistoryIsOne = (root : Root) (first : State) (history other : History)
    → AreTurns root first history → AreTurns root first other
    → readings_of history ≡ readings_of other → history ≡ other

-- numbers that a store can have: its commits, its batches and the ids of its targets are counted, and eight bytes have the id of
-- the first pending batch
pub record IsCounted (s : State) : Type 0 where
  pub within : s.number ≤ most_commits
  pub next : s.next_batch ≤ s.number + 1
  pub rows : id_at (length s.rows) ≤ 2147483648
  pub first : IfSome (first_batch s) (λ batch. batch.id < 2 ^ 64)

-- the ids of the listeners that were heard of fit four bytes
abbrev pub HasListenerIds : Past → Type 0
HasListenerIds past = (id : ℕ) (view : Viewed) → listener id past ≡ Some view → id < 2 ^ 32

-- No whole line that a turn writes reports a number above that of the state after its commit.
abbrev pub ATurnReportsWithin : Type 0
ATurnReportsWithin = (root : Root) (s : State) (past : Past) (reading : Reading) (t : LineTurn) (number : ℕ)
    → IsCounted s → HasListenerIds past → number < 2 ^ 64
    → IsSpelledReading reading → IsLineTurn root s past reading t
    → ReportedWithin (after s t.commit).number (printed root number t)

-- In every run the pending batches went out in order on the stream of writes, none skipped, and left in order.
abbrev pub RunsWriteInOrder : Type 0
RunsWriteInOrder = (root : Root) (first : State) (history : History) → AreTurns root first history
    → IsInOrder first (heard history)
