-- What an output reports: the numbers of commits that its whole lines name.
use Rattle.std.specs.Prelude.{◌≡◌, ℕ, ℤ, ◌≤◌, ◌<◌, ◌^◌, ◌==◌, List, [], ◌∷◌, ◌++◌, codes, Option, Some, option_and_then, nat_abs, if◌then◌else◌}
use Rattle.std.specs.List.{All}
use Rattle.serde_json.specs.Data.{Data}
use Rattle.serde_json.specs.Find.{get, as_number, as_u64}
use Rattle.serde_json.specs.Read.{read}
use Rattle.serde_json.specs.Written.{compact_text}
use Rattle.document_keys.specs.Names.{Root}
use Rattle.value_model.specs.declared.document.RpcStatus.{RpcStatus}
use Rattle.value_model.specs.declared.timestamp.Timestamp.{Timestamp}
use Rattle.value_model.specs.Data.{entries_depth}
use Rattle.json_model.specs.Faults.{max_nesting}
use Rattle.views.specs.Row.{Row}
use Rattle.views.specs.declared.raised.Raised.{Raised}
use Rattle.line_printer.specs.Lines.{ok_tree, listening_tree, unlistened_tree, snapshot_tree, result_tree, rejected_tree}

-- the whole lines of a text without their newlines, where `line` is what the first one begins with
abbrev pub lines_on : List ℕ → List ℕ → List (List ℕ)
lines_on line [] = []
lines_on line (byte ∷ rest) =
    if byte == 10 then line ∷ lines_on [] rest else lines_on (line ++ byte ∷ []) rest

-- The whole lines of a text: what stands before each newline. What stands behind the last one is no
-- whole line.
abbrev pub whole_lines : List ℕ → List (List ℕ)
whole_lines text = lines_on [] text

-- the number in the member `commit` of an object
abbrev pub commit_in : Data → Option ℕ
commit_in d = option_and_then as_u64 (option_and_then as_number (get (codes "commit") d))

-- the members of a line that report a commit
pub data IsReporting : List ℕ → Type 0 where
  in_ok : IsReporting (codes "ok")
  in_result : IsReporting (codes "result")
  in_rejected : IsReporting (codes "rejected")
  in_snapshot : IsReporting (codes "snapshot")

-- the number in the member `commit` of this member of a tree
abbrev pub reported_in : List ℕ → Data → Option ℕ
reported_in name d = option_and_then commit_in (get name d)

-- A line reports a number: it is JSON (RFC 8259), and one of those members of its tree has it.
pub record Reports (line : List ℕ) (reported : ℕ) : Type 0 where
  pub tree : Data
  pub is_json : read line ≡ Some tree
  pub name : List ℕ
  pub reporting : IsReporting name
  pub is : reported_in name tree ≡ Some reported

-- the line reports no number above this one
abbrev pub ReportsWithin : ℕ → List ℕ → Type 0
ReportsWithin most line = (reported : ℕ) → Reports line reported → reported ≤ most

-- No whole line of the text reports a number above this one: it is at least the greatest that one
-- reports.
abbrev pub ReportedWithin : ℕ → List ℕ → Type 0
ReportedWithin most text = All (ReportsWithin most) (whole_lines text)

-- ---- laws

-- a line reports at most one number in one member
abbrev pub ALineReportsOnce : Type 0
ALineReportsOnce = (line : List ℕ) (a b : ℕ) (first : Reports line a) (second : Reports line b)
    → first.name ≡ second.name → a ≡ b

-- the printed answer of a write reports its commit
abbrev pub OkReports : Type 0
OkReports = (batch n : ℕ) → batch < 2 ^ 64 → n < 2 ^ 64
    → Reports (compact_text (ok_tree batch n)) n

-- the printed answer of a listen reports the commit that it names
abbrev pub ListeningReports : Type 0
ListeningReports = (id n : ℕ) (target : ℤ) → id < 2 ^ 64 → nat_abs target < 2 ^ 63 → n < 2 ^ 64
    → Reports (compact_text (listening_tree id target n)) n

-- the printed answer of an unlisten reports the commit that it names
abbrev pub UnlistenedReports : Type 0
UnlistenedReports = (id n : ℕ) → id < 2 ^ 64 → n < 2 ^ 64
    → Reports (compact_text (unlistened_tree id n)) n

-- no value of the row nests deeper than values may
abbrev pub IsShallow : Row → Type 0
IsShallow row = entries_depth row.document.fields ≤ max_nesting

-- a printed snapshot reports the commit that it names
abbrev pub SnapshotReports : Type 0
SnapshotReports = (root : Root) (id n : ℕ) (read_time : Option Timestamp) (raised : Raised)
    → id < 2 ^ 64 → n < 2 ^ 64 → All IsShallow raised.rows
    → Reports (compact_text (snapshot_tree root id n read_time raised)) n

-- what is printed where a batch was committed reports the commit that it names
abbrev pub ResultReports : Type 0
ResultReports = (batch n : ℕ) (time : Timestamp) → batch < 2 ^ 64 → n < 2 ^ 64
    → Reports (compact_text (result_tree batch n time)) n

-- what is printed where a batch was rejected reports the commit that it names
abbrev pub RejectedReports : Type 0
RejectedReports = (batch n : ℕ) (status : RpcStatus)
    → batch < 2 ^ 64 → n < 2 ^ 64 → status.code < 2 ^ 64
    → Reports (compact_text (rejected_tree batch n status)) n
