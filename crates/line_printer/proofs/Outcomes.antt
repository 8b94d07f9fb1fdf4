-- What became of batches: what the lines are read as, and what they report.
use Rattle.std.proofs.Common.{◌≡◌, inl, inr, ℕ, zero, suc, ◌<◌, ◌≤◌, ◌^◌, List, [], ◌∷◌, codes, Some, refl, arith}
use Rattle.json.specs.Tree as tree
use Rattle.json.specs.Tree.{HasNumbers}
use Rattle.json.proofs.Printed.Decimals.{IsNumber-decimal}
use Rattle.serde_json.specs.Data.{Data, object}
use Rattle.serde_json.specs.Read.{of_json, max_depth}
use Rattle.serde_json.specs.Written.{outline, compact_text}
use Rattle.serde_json.proofs.Numbers.{number_of-decimal}
use Rattle.value_model.specs.declared.document.RpcStatus.{RpcStatus}
use Rattle.value_model.specs.declared.timestamp.Timestamp.{Timestamp}
use Rattle.json_model.specs.Forms.{present}
use Rattle.json_messages.specs.Printed.{unless_zero, text_unless_empty}
use Rattle.line_printer.specs.Trees.{one, three}
use Rattle.line_printer.specs.Lines.{count, time_tree, result_tree, rejected_tree}
use Rattle.line_printer.specs.Reported.{IsReporting, ReportsWithin, ResultReports, RejectedReports}
use Rattle.line_printer.proofs.Answered.{has_own}
use Rattle.line_printer.proofs.Parsed.{IsLoud, within_commit, reports_commit}
use Rattle.line_printer.proofs.Members.{IsNumbered, rows_numbers}

-- ---- a batch that was committed

result_loud : IsLoud (codes "result")
result_loud reporting IsReporting.in_ok e = inl refl
result_loud reporting IsReporting.in_result e = inr refl
result_loud reporting IsReporting.in_rejected e = inl refl
result_loud reporting IsReporting.in_snapshot e = inl refl

abbrev committed : ℕ → ℕ → Timestamp → Data
committed batch n time = three (codes "batch") (count batch) (codes "commit") (count n) (codes "commitTime") (time_tree time)

committed_numbers : (batch n : ℕ) (time : Timestamp) → batch < 2 ^ 64 → n < 2 ^ 64 → HasNumbers (outline (committed batch n time))
committed_numbers batch n time small few = (IsNumber-decimal batch small, (IsNumber-decimal n few, (tt, tt)))

committed_read : (batch n : ℕ) (time : Timestamp) → batch < 2 ^ 64 → n < 2 ^ 64 → of_json (outline (committed batch n time)) ≡ Some (committed batch n time)
committed_read batch n time small few = rw (number_of-decimal batch small, number_of-decimal n few)

pub result_within : (batch n : ℕ) (time : Timestamp) → batch < 2 ^ 64 → n < 2 ^ 64 → ReportsWithin n (compact_text (result_tree batch n time))
result_within batch n time small few =
    within_commit (codes "result") (committed batch n time) n result_loud (committed_numbers batch n time small few) (has_own (committed batch n time) n (committed_read batch n time small few) refl)

pub result_reports : ResultReports
result_reports batch n time small few =
    reports_commit (codes "result") (committed batch n time) (committed batch n time) n IsReporting.in_result refl (committed_numbers batch n time small few) (omega arith)
    (committed_read batch n time small few) refl

-- ---- a batch that was rejected

rejected_loud : IsLoud (codes "rejected")
rejected_loud reporting IsReporting.in_ok e = inl refl
rejected_loud reporting IsReporting.in_result e = inl refl
rejected_loud reporting IsReporting.in_rejected e = inr refl
rejected_loud reporting IsReporting.in_snapshot e = inl refl

abbrev status_of : ℕ → List ℕ → Data
status_of code message = object (present ((codes "code", unless_zero code) ∷ (codes "message", text_unless_empty message) ∷ []))

abbrev dropped : ℕ → ℕ → ℕ → List ℕ → Data
dropped batch n code message = three (codes "batch") (count batch) (codes "commit") (count n) (codes "status") (status_of code message)

code_numbers : (code : ℕ) → code < 2 ^ 64 → IsNumbered (unless_zero code)
code_numbers zero small = tt
code_numbers (suc code) small = IsNumber-decimal (suc code) small

message_numbers : (message : List ℕ) → IsNumbered (text_unless_empty message)
message_numbers [] = tt
message_numbers (c ∷ message) = tt

dropped_numbers : (batch n code : ℕ) (message : List ℕ) → batch < 2 ^ 64 → n < 2 ^ 64 → code < 2 ^ 64 → HasNumbers (outline (dropped batch n code message))
dropped_numbers batch n code message small few is =
    let status = rows_numbers ((codes "code", unless_zero code) ∷ (codes "message", text_unless_empty message) ∷ []) (code_numbers code is, (message_numbers message, tt)) in
    (IsNumber-decimal batch small, (IsNumber-decimal n few, (status, tt)))

dropped_read : (batch n code : ℕ) (message : List ℕ) → batch < 2 ^ 64 → n < 2 ^ 64 → code < 2 ^ 64 → of_json (outline (dropped batch n code message)) ≡ Some (dropped batch n code message)
dropped_read batch n zero [] small few is = rw (number_of-decimal batch small, number_of-decimal n few)
dropped_read batch n zero (c ∷ message) small few is = rw (number_of-decimal batch small, number_of-decimal n few)
dropped_read batch n (suc code) [] small few is = rw (number_of-decimal batch small, number_of-decimal n few, number_of-decimal (suc code) is)
dropped_read batch n (suc code) (c ∷ message) small few is = rw (number_of-decimal batch small, number_of-decimal n few, number_of-decimal (suc code) is)

dropped_flat : (batch n code : ℕ) (message : List ℕ) → tree.depth (outline (one (codes "rejected") (dropped batch n code message))) ≤ max_depth
dropped_flat batch n zero [] = omega arith
dropped_flat batch n zero (c ∷ message) = omega arith
dropped_flat batch n (suc code) [] = omega arith
dropped_flat batch n (suc code) (c ∷ message) = omega arith

pub rejected_within : (batch n : ℕ) (status : RpcStatus) → batch < 2 ^ 64 → n < 2 ^ 64 → status.code < 2 ^ 64 → ReportsWithin n (compact_text (rejected_tree batch n status))
rejected_within batch n status small few is =
    let tree = dropped batch n status.code status.message in
    within_commit (codes "rejected") tree n rejected_loud (dropped_numbers batch n status.code status.message small few is)
    (has_own tree n (dropped_read batch n status.code status.message small few is) refl)

pub rejected_reports : RejectedReports
rejected_reports batch n status small few is =
    let tree = dropped batch n status.code status.message in
    reports_commit (codes "rejected") tree tree n IsReporting.in_rejected refl (dropped_numbers batch n status.code status.message small few is)
    (dropped_flat batch n status.code status.message) (dropped_read batch n status.code status.message small few is) refl
