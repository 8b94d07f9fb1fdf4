-- Clause *Output* of a run over the files of a store: which items of the source it handled and
-- took, how often the source answered, and what it wrote.
use Rattle.std.specs.Prelude.{◌≡◌, ◌≢◌, ◌⊎◌, ℕ, zero, suc, ◌+◌, ◌<◌, List, [], ◌∷◌, ◌++◌, length, drop, IsTrue, Bool}
use Rattle.host_api.specs.Counts.{one_more}
use Rattle.host_api.specs.Host.{IsPart}
use Rattle.host_api.specs.Items.{Item, split, IsSuffix}
use Rattle.document_keys.specs.Names.{Root}
use Rattle.line_reader.specs.Reading.{AreRead}
use Rattle.line_reader.specs.Spelled.{IsSpelledReading}
use Rattle.line_reader.specs.declared.reading.Reading.{Reading}
use Rattle.local_store.specs.State.{State}
use Rattle.client_run.specs.History.{Handled, History, AreTurns, IsNext, heard, now, output_of, readings_of}
use Rattle.client_run.specs.Printed.{printed}
use Rattle.client_run.specs.Turn.{CommitsOne}
use Rattle.client_run.specs.declared.status.Status.{Status}
use Rattle.client_run.specs.declared.status.Status.TheVariants as ended

-- A run as it begins: its database, the items of the source, the state that the files found, how
-- many items it may handle, and the output, if the host tells it.
pub record Call : Type 0 where
  pub root : Root
  pub items : List Item
  pub first : State
  pub budget : ℕ
  pub tells_out : Bool
  pub out : List ℕ

-- the run over these bytes of a source
abbrev pub called : Root → List ℕ → State → ℕ → Bool → List ℕ → Call
called root bytes first budget tells_out out = record {
  root = root;
  items = split bytes;
  first = first;
  budget = budget;
  tells_out = tells_out;
  out = out;
}

-- what each of these lines commits has a spelling
abbrev pub AreSpelledLines : History → Type 0
AreSpelledLines [] = Unit {0}
AreSpelledLines (line ∷ history) = IsSpelledReading line.reading × AreSpelledLines history

-- these are the handled lines: the first items of the source, one after another
pub record IsRun (call : Call) (history : History) : Type 0 where
  pub turns : AreTurns call.root call.first history
  pub read : AreRead call.root call.items (readings_of history)
  pub spelled : AreSpelledLines history

-- ---- which items were taken, where these bytes are left

-- the first n items
abbrev pub Took : Call → ℕ → List ℕ → Type 0
Took call n left = split left ≡ drop n call.items

-- those that were handled
abbrev pub TookHandled : Call → History → List ℕ → Type 0
TookHandled call history left = Took call (length history) left

-- The same, but a front of the bytes behind them may be gone, as a call of the source leaves it that has no line.
pub record TookNoMore (call : Call) (history : History) (left : List ℕ) : Type 0 where
  pub rest : List ℕ
  pub others : TookHandled call history rest
  pub suffix : IsSuffix rest left

-- the handled ones and the next, which is there
pub record TookNext (call : Call) (history : History) (left : List ℕ) : Type 0 where
  pub below : length history < length call.items
  pub others : Took call (length history + 1) left

-- the same, and the next one makes a commit
pub record TookCommit (call : Call) (history : History) (left : List ℕ) : Type 0 where
  pub others : TookNext call history left
  pub reading : Reading
  pub read : AreRead call.root call.items (readings_of history ++ reading ∷ [])
  pub spelled : IsSpelledReading reading
  pub commits : CommitsOne (now call.first history) (heard history) reading

-- nothing was handled, and nothing taken
pub record TookNothing (call : Call) (history : History) (left : List ℕ) : Type 0 where
  pub none : history ≡ []
  pub others : Took call 0 left

-- ---- how many calls of the source were answered, where it counts so many before the run and after it

-- a count that is raised by so many
abbrev pub raised_by : ℕ → ℕ → ℕ
raised_by zero count = count
raised_by (suc n) count = one_more (raised_by n count)

-- one for each line that was handled
abbrev pub AnsweredHandled : History → ℕ → ℕ → Type 0
AnsweredHandled history before after = after ≡ raised_by (length history) before

-- these and the next one
abbrev pub AnsweredNext : History → ℕ → ℕ → Type 0
AnsweredNext history before after = after ≡ raised_by (length history + 1) before

-- ---- what was written, where the output is this then

-- the output once the handled items' lines were written
abbrev pub out_after : Call → History → List ℕ
out_after call history = call.out ++ output_of call.root history

abbrev pub WroteHandled : Call → History → List ℕ → Type 0
WroteHandled call history out = IsTrue call.tells_out → out ≡ out_after call history

-- what the next item's turn writes
abbrev pub next_text : Call → History → Handled → List ℕ
next_text call history line = printed call.root (length history + 1) line.turn

-- a part of the next item's lines besides, which has some: where an item has none, nothing is written for it
pub record HasPart (call : Call) (history : History) (out : List ℕ) : Type 0 where
  pub line : Handled
  pub next : IsNext call.root call.first history line
  pub read : AreRead call.root call.items (readings_of (line ∷ history))
  pub spelled : IsSpelledReading line.reading
  pub some : next_text call history line ≢ []
  pub part : IsPart (next_text call history line) (out_after call history) out

abbrev pub WrotePart : Call → History → List ℕ → Type 0
WrotePart call history out = IsTrue call.tells_out → HasPart call history out

-- ---- how a run ends

pub record Ends (Count Taken Written : Type 0) : Type 0 where
  pub handled : Count
  pub taken : Taken
  pub written : Written

-- all items were handled, before the budget was spent
pub record HandledAll (call : Call) (history : History) : Type 0 where
  pub all : length history ≡ length call.items
  pub below : length history < call.budget

abbrev pub SpentBudget : Call → History → Type 0
SpentBudget call history = length history ≡ call.budget

abbrev pub BelowBudget : Call → History → Type 0
BelowBudget call history = length history < call.budget

-- How many items were handled, which were taken, by how many answers of the source, and what was written. At Done its last answer
-- was that nothing is left.
abbrev pub EndsAs : Status → Call → History → List ℕ → ℕ → ℕ → List ℕ → Type 0
EndsAs ended.Done c rs left before after out =
    Ends (HandledAll c rs) (TookHandled c rs left × AnsweredNext rs before after) (WroteHandled c rs out)
EndsAs ended.Budget c rs left before after out =
    Ends (SpentBudget c rs) (TookHandled c rs left × AnsweredHandled rs before after) (WroteHandled c rs out)
EndsAs ended.SourceFault c rs left before after out =
    Ends (BelowBudget c rs) (TookNoMore c rs left × AnsweredHandled rs before after) (WroteHandled c rs out)
EndsAs ended.DiskFault c rs left before after out =
    Ends (BelowBudget c rs)
    ((TookCommit c rs left × AnsweredNext rs before after) ⊎ (TookNothing c rs left × (after ≡ before)))
    (WroteHandled c rs out)
EndsAs ended.SinkFault c rs left before after out =
    Ends (BelowBudget c rs) (TookNext c rs left × AnsweredNext rs before after) (WrotePart c rs out)
EndsAs ended.NoMemory c rs left before after out =
    Ends (BelowBudget c rs)
    ((TookNoMore c rs left × AnsweredHandled rs before after) ⊎ (TookNext c rs left × AnsweredNext rs before after))
    (WroteHandled c rs out)
EndsAs _ c rs left before after out = ⊥
