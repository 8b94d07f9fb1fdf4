-- What is printed has no floats.
use Rattle.std.proofs.Common.{◌≡◌, ℕ, ℤ, zero, suc, pos, negsuc, List, [], ◌∷◌, Bool, true, false, ◌||◌, codes, nat_lt, Option, Some, None, refl}
use Rattle.std.specs.Bool.{if◌then◌else◌}
use Rattle.serde_json.specs.Data.{number, unsigned}
use Rattle.serde_json.specs.Find.{of_integer}
use Rattle.serde_json.specs.Written.{has_float}
use Rattle.document_keys.specs.Names.{Root}
use Rattle.value_model.specs.declared.document.RpcStatus.{RpcStatus}
use Rattle.json_model.specs.Numbers.{max_count}
use Rattle.json_model.specs.Forms.{printed_each, unless_empty}
use Rattle.json_model.proofs.Digits.{NoFloat, neither, rows_digits, each_digits, list_digits}
use Rattle.json_rpc.specs.Printed.{printed_write}
use Rattle.json_rpc.proofs.Digits.{write_digits}
use Rattle.mutations.specs.declared.results.WriteRequest.{WriteRequest}
use Rattle.mutations.specs.declared.results.WriteRequest.TheVariants.{Handshake, Batch}
use Rattle.queries.specs.declared.listen_request.ListenRequest.{ListenRequest}
use Rattle.queries.specs.declared.listen_request.ListenRequest.TheVariants.{Add, Remove}
use Rattle.queries.specs.declared.listen_request.Resume.{Resume}
use Rattle.queries.specs.declared.target.Target.{Target}
use Rattle.queries.specs.declared.target.Target.TheVariants.{Document, Collection}
use Rattle.json_queries.proofs.Digits.{target_digits}
use Rattle.json_messages.specs.Printed.{unless_zero, text_unless_empty, printed_token, printed_status, point_token, point_count, target_member, added_target, printed_listen_request, printed_write_request}

zero_digits : (n : ℕ) → NoFloat (unless_zero n)
zero_digits zero = tt
zero_digits (suc n) = refl

text_digits : (text : List ℕ) → NoFloat (text_unless_empty text)
text_digits [] = tt
text_digits (c ∷ text) = refl

pub token_digits : (token : List ℕ) → NoFloat (printed_token token)
token_digits [] = tt
token_digits (byte ∷ token) = refl

pub status_digits : (status : RpcStatus) → has_float (printed_status status) ≡ false
status_digits status = rows_digits ((codes "code", unless_zero status.code) ∷ (codes "message", text_unless_empty status.message) ∷ []) (zero_digits status.code, (text_digits status.message, tt))

id_digits : (id : ℤ) → has_float (number (of_integer id)) ≡ false
id_digits (pos n) = refl
id_digits (negsuc n) = refl

point_token_digits : (point : Option Resume) → NoFloat (point_token point)
point_token_digits None = tt
point_token_digits (Some point) = token_digits point.token

point_count_digits : (point : Option Resume) → NoFloat (point_count point)
point_count_digits None = tt
point_count_digits (Some point) = by (nat_lt max_count point.expected_count)
  where
    by : (b : Bool) → NoFloat (if b then None else Some (number (unsigned point.expected_count)))
    by true = tt
    by false = refl

first_none : (a : Bool) → (a || false) ≡ false → a ≡ false
first_none true h = cc
first_none false h = refl

documents_digits : (root : Root) (target : Target) → NoFloat (target_member (codes "documents") root target)
documents_digits root (Document key) = refl
documents_digits root (Collection target) = tt

query_digits : (root : Root) (target : Target) → NoFloat (target_member (codes "query") root target)
query_digits root (Document key) = tt
query_digits root (Collection target) = first_none _ (target_digits root (Collection target))

added_digits : (root : Root) (id : ℤ) (target : Target) (point : Option Resume) → has_float (added_target root id target point) ≡ false
added_digits root id target point =
    rows_digits ((codes "documents", target_member (codes "documents") root target) ∷ (codes "expectedCount", point_count point) ∷ (codes "query", target_member (codes "query") root target) ∷ (codes "resumeToken", point_token point) ∷ (codes "targetId", Some (number (of_integer id))) ∷ [])
    (documents_digits root target, (point_count_digits point, (query_digits root target, (point_token_digits point, (id_digits id, tt)))))

pub listen_request_digits : (root : Root) (request : ListenRequest) → has_float (printed_listen_request root request) ≡ false
listen_request_digits root (Add id target point) = neither (has_float (added_target root id target point)) false (added_digits root id target point) refl
listen_request_digits root (Remove id) = neither (has_float (number (of_integer id))) false (id_digits id) refl

pub write_request_digits : (root : Root) (request : WriteRequest) → has_float (printed_write_request root request) ≡ false
write_request_digits root Handshake = refl
write_request_digits root (Batch token writes) =
    rows_digits ((codes "streamToken", printed_token token) ∷ (codes "writes", unless_empty (printed_each (printed_write root) writes)) ∷ [])
    (token_digits token, (list_digits (printed_each (printed_write root) writes) (each_digits (printed_write root) (write_digits root) writes), tt))
