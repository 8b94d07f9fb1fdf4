-- What the turn of a line writes: compact JSON, each line with its newline.
use Rattle.std.specs.Prelude.{ℕ, List, [], ◌++◌, length, Option, Some, None, option_map}
use Rattle.std.specs.List.{flat_map}
use Rattle.serde_json.specs.Data.{Data}
use Rattle.document_keys.specs.Names.{Root}
use Rattle.line_printer.specs.Lines as tree
use Rattle.line_printer.specs.Lines.{line_of}
use Rattle.line_reader.specs.declared.refusal.Refusal.TheVariants as unread_for
use Rattle.line_reader.specs.declared.refusal.Refusal.{Refusal as Unread}
use Rattle.queries.specs.declared.listen_request.ListenRequest.TheVariants.{Add, Remove}
use Rattle.queries.specs.declared.listen_request.Resume.{Resume}
use Rattle.queries.specs.declared.raw.QueryRule.{QueryRule}
use Rattle.queries.specs.declared.raw.QueryRule.TheVariants as rule
use Rattle.client_turns.specs.declared.refusal.Refusal.{Refusal}
use Rattle.client_turns.specs.declared.refusal.Refusal.TheVariants.{ListenerTaken, NoListener, StreamState, BadMessage, IdsSpent}
use Rattle.client_turns.specs.Lines.{Line, wrote, listening, unlistened, document, result, rejected, error, snapshot, add, remove, send}
use Rattle.target_cache.specs.declared.row.Held.{Held}
use Rattle.client_run.specs.Turn.{Cause, unread, unheard, LineTurn}

-- the point from which a target goes on: the token that its row holds, and how many keys
abbrev pub resume_of : Held → Resume
resume_of held = record { token = held.token; expected_count = length held.keys }

abbrev pub tree_of : Root → Line → Data
tree_of root (wrote batch commit) = tree.ok_tree batch commit
tree_of root (listening id target commit) = tree.listening_tree id target commit
tree_of root (unlistened id commit) = tree.unlistened_tree id commit
tree_of root (document key found how) = tree.document_tree root key found how
tree_of root (result batch commit time) = tree.result_tree batch commit time
tree_of root (rejected batch commit status) = tree.rejected_tree batch commit status
tree_of root (error id status) = tree.error_tree id status
tree_of root (snapshot commit read_time told) = tree.snapshot_tree root told.id commit read_time told.raised
tree_of root (add t row) = tree.send_listen_tree root (Add t row.target (option_map resume_of row.held))
tree_of root (remove t) = tree.send_listen_tree root (Remove t)
tree_of root (send request) = tree.send_write_tree root request

-- the bytes of lines, one after another
abbrev pub text_of : Root → List Line → List ℕ
text_of root lines = flat_map (λ line. line_of (tree_of root line)) lines

-- the number of a rule of queries
abbrev pub rule_number : QueryRule → ℕ
rule_number rule.OneCollection = 1
rule_number rule.Negations = 2
rule_number rule.Lists = 3
rule_number rule.Cursors = 4
rule_number rule.Limit = 5
rule_number rule.ArrayFilters = 6

-- what a line that is no event prints, at this line of the run, from 1
abbrev pub unread_tree : ℕ → Unread → Data
unread_tree line unread_for.LineTooLong = tree.too_long_tree line
unread_tree line (unread_for.BadLine member) = tree.bad_line_tree line member
unread_tree line unread_for.TooDeep = tree.too_deep_tree line
unread_tree line (unread_for.Unsupported member) = tree.unsupported_tree line member
unread_tree line (unread_for.BadName bad) = tree.bad_name_tree line (tree.naming_text bad.fault) bad.name
unread_tree line (unread_for.BadWrites count) = tree.bad_writes_tree line count
unread_tree line (unread_for.BadQuery rule) = tree.bad_query_tree line (rule_number rule)

-- what an event prints that the client refuses
abbrev pub unheard_tree : ℕ → Refusal → Data
unheard_tree line (ListenerTaken id) = tree.listener_taken_tree line id
unheard_tree line (NoListener id) = tree.no_listener_tree line id
unheard_tree line (StreamState stream is_open) = tree.stream_state_tree line stream is_open
unheard_tree line (BadMessage stream member) = tree.bad_message_tree line stream member
unheard_tree line IdsSpent = tree.ids_spent_tree line

abbrev pub refused_tree : ℕ → Cause → Data
refused_tree line (unread refusal) = unread_tree line refusal
refused_tree line (unheard refusal) = unheard_tree line refusal

-- the bytes of a refusal, if there is one, at this line of the run, from 1
abbrev pub refusal_text : ℕ → Option Cause → List ℕ
refusal_text line None = []
refusal_text line (Some cause) = line_of (refused_tree line cause)

-- what a turn writes, where this is the line's number
abbrev pub printed : Root → ℕ → LineTurn → List ℕ
printed root number t = refusal_text number t.cause ++ text_of root t.lines
