-- The printed form of requests and statuses: one tree for each. Texts and tokens that are empty are left out, and so is a code
-- that is 0.
use Rattle.std.specs.Prelude.{ℕ, ℤ, zero, suc, List, [], ◌∷◌, codes, Option, Some, None, nat_lt, option_and_then, option_map, if◌then◌else◌}
use Rattle.std.specs.Borrow.{Bor}
use Rattle.serde_json.specs.Data.{Data as Json, number, unsigned, string, object}
use Rattle.serde_json.specs.Find.{as_object, get_member, of_integer}
use Rattle.document_keys.specs.Names.{Root, root_text}
use Rattle.value_model.specs.declared.document.RpcStatus.{RpcStatus}
use Rattle.json_model.specs.Bytes.{printed_bytes}
use Rattle.json_model.specs.Forms.{present, printed_each, unless_empty}
use Rattle.json_model.specs.Numbers.{max_count}
use Rattle.json_model.specs.Trees.{one, two}
use Rattle.json_rpc.specs.Printed.{printed_write}
use Rattle.mutations.specs.declared.results.WriteRequest.{WriteRequest}
use Rattle.mutations.specs.declared.results.WriteRequest.TheVariants.{Handshake, Batch}
use Rattle.queries.specs.declared.listen_request.ListenRequest.{ListenRequest}
use Rattle.queries.specs.declared.listen_request.ListenRequest.TheVariants.{Add, Remove}
use Rattle.queries.specs.declared.listen_request.Resume.{Resume}
use Rattle.queries.specs.declared.target.Target.{Target}
use Rattle.json_queries.specs.Printed.{target_tree}

-- a number, unless it is 0
abbrev pub unless_zero : ℕ → Option Json
unless_zero zero = None
unless_zero (suc n) = Some (number (unsigned (suc n)))

-- a text, unless it is empty
abbrev pub text_unless_empty : List ℕ → Option Json
text_unless_empty [] = None
text_unless_empty (c ∷ text) = Some (string (c ∷ text))

-- a token in base64, unless it is empty
abbrev pub printed_token : List ℕ → Option Json
printed_token [] = None
printed_token (byte ∷ token) = Some (string (printed_bytes (byte ∷ token)))

-- a status
abbrev pub printed_status : RpcStatus → Json
printed_status status = object (present ((codes "code", unless_zero status.code) ∷ (codes "message", text_unless_empty status.message) ∷ []))

-- ---- requests on a watch stream

-- the point of a token that is lent and a number of documents
abbrev pub lent_point : Option (Bor (List ℕ) × ℕ) → Option Resume
lent_point lent = option_map (λ p. record { token = p.0.now; expected_count = p.1 }) lent

-- the token of a point
abbrev pub point_token : Option Resume → Option Json
point_token None = None
point_token (Some point) = printed_token point.token

-- the number of documents that the target had at a point, which is printed when it is 0 too, unless it has more than 32 bits
-- with sign
abbrev pub point_count : Option Resume → Option Json
point_count None = None
point_count (Some point) = if nat_lt max_count point.expected_count then None else Some (number (unsigned point.expected_count))

-- what the tree of a target has under the name
abbrev pub target_member : List ℕ → Root → Target → Option Json
target_member name root target = option_and_then (get_member name) (as_object (target_tree root target))

-- what `addTarget` holds: the target, the point that it goes on from, and the id
abbrev pub added_target : Root → ℤ → Target → Option Resume → Json
added_target root id target point =
    object (present (
    (codes "documents", target_member (codes "documents") root target) ∷
    (codes "expectedCount", point_count point) ∷
    (codes "query", target_member (codes "query") root target) ∷
    (codes "resumeToken", point_token point) ∷
    (codes "targetId", Some (number (of_integer id))) ∷
    []))

-- a request on a watch stream
abbrev pub printed_listen_request : Root → ListenRequest → Json
printed_listen_request root (Add id target point) = two (codes "addTarget") (added_target root id target point) (codes "database") (string (root_text root))
printed_listen_request root (Remove id) = two (codes "database") (string (root_text root)) (codes "removeTarget") (number (of_integer id))

-- ---- requests on a write stream

-- a request on a write stream: the first names the database, a later one has a token and writes
abbrev pub printed_write_request : Root → WriteRequest → Json
printed_write_request root Handshake = one (codes "database") (string (root_text root))
printed_write_request root (Batch token writes) =
    object (present (
    (codes "streamToken", printed_token token) ∷
    (codes "writes", unless_empty (printed_each (printed_write root) writes)) ∷
    []))
