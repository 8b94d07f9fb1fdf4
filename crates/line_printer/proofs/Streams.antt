-- Outputs of the lines of the streams, and of the refusals of what streams may not do, that report no number above one.
use Rattle.std.proofs.Common.{ℕ, ◌<◌, ◌^◌, Bool, false, List, codes, refl, arith}
use Rattle.std.proofs.lemmas.Bool.{or_from}
use Rattle.json.proofs.Printed.Decimals.{IsNumber-decimal}
use Rattle.serde_json.specs.Written.{has_float}
use Rattle.document_keys.specs.Names.{Root}
use Rattle.value_model.specs.declared.document.RpcStatus.{RpcStatus}
use Rattle.value_model.specs.declared.message.StreamName.{StreamName}
use Rattle.value_model.specs.declared.timestamp.Timestamp.{Timestamp}
use Rattle.mutations.specs.declared.results.WriteRequest.{WriteRequest}
use Rattle.queries.specs.declared.listen_request.ListenRequest.{ListenRequest}
use Rattle.json_messages.specs.Printed.{printed_listen_request, printed_status, printed_write_request}
use Rattle.json_messages.proofs.Digits.{listen_request_digits, status_digits, write_request_digits}
use Rattle.line_printer.specs.Trees.{one, two}
use Rattle.line_printer.specs.Lines.{line_of, count, error_tree, send_listen_tree, result_tree, rejected_tree, send_write_tree, stream_state_tree, bad_message_tree}
use Rattle.line_printer.specs.Reported.{IsReporting}
use Rattle.line_printer.proofs.Outcomes.{result_within as result_reports_within, rejected_within as rejected_reports_within}
use Rattle.line_printer.proofs.Parsed.{IsQuiet}
use Rattle.line_printer.proofs.Within.{IsWithin, line_within, quiet_floatless_within, refused_within}

-- ---- what became of batches

pub result_within : (batch n : ℕ) (time : Timestamp) → batch < 2 ^ 64 → n < 2 ^ 64 → IsWithin n (line_of (result_tree batch n time))
result_within batch n time small few = line_within n (result_tree batch n time) (result_reports_within batch n time small few)

pub rejected_within : (batch n : ℕ) (status : RpcStatus) → batch < 2 ^ 64 → n < 2 ^ 64 → status.code < 2 ^ 64 → IsWithin n (line_of (rejected_tree batch n status))
rejected_within batch n status small few is = line_within n (rejected_tree batch n status) (rejected_reports_within batch n status small few is)

-- ---- requests

send_quiet : IsQuiet (codes "send")
send_quiet reporting IsReporting.in_ok e = refl
send_quiet reporting IsReporting.in_result e = refl
send_quiet reporting IsReporting.in_rejected e = refl
send_quiet reporting IsReporting.in_snapshot e = refl

pub send_write_within : (most : ℕ) (root : Root) (request : WriteRequest) → IsWithin most (line_of (send_write_tree root request))
send_write_within most root request =
    quiet_floatless_within most (codes "send") (one (codes "write") (printed_write_request root request)) (or_from (has_float (printed_write_request root request)) false (write_request_digits root request) refl) send_quiet

pub send_listen_within : (most : ℕ) (root : Root) (request : ListenRequest) → IsWithin most (line_of (send_listen_tree root request))
send_listen_within most root request =
    quiet_floatless_within most (codes "send") (one (codes "listen") (printed_listen_request root request)) (or_from (has_float (printed_listen_request root request)) false (listen_request_digits root request) refl) send_quiet

-- ---- errors

error_quiet : IsQuiet (codes "error")
error_quiet reporting IsReporting.in_ok e = refl
error_quiet reporting IsReporting.in_result e = refl
error_quiet reporting IsReporting.in_rejected e = refl
error_quiet reporting IsReporting.in_snapshot e = refl

pub error_within : (most id : ℕ) (status : RpcStatus) → IsWithin most (line_of (error_tree id status))
error_within most id status =
    quiet_floatless_within most (codes "error") (two (codes "id") (count id) (codes "status") (printed_status status)) (or_from (has_float (printed_status status)) false (status_digits status) refl) error_quiet

-- ---- refusals

pub stream_state_within : (most line : ℕ) (stream : StreamName) (is_open : Bool) → line < 2 ^ 64 → IsWithin most (line_of (stream_state_tree line stream is_open))
stream_state_within most line stream is_open small = refused_within most _ (tt, (IsNumber-decimal line small, (IsNumber-decimal 9 (omega arith), (tt, (tt, tt)))))

pub bad_message_within : (most line : ℕ) (stream : StreamName) (name : List ℕ) → line < 2 ^ 64 → IsWithin most (line_of (bad_message_tree line stream name))
bad_message_within most line stream name small = refused_within most _ (tt, (IsNumber-decimal line small, (tt, (IsNumber-decimal 10 (omega arith), (tt, tt)))))
