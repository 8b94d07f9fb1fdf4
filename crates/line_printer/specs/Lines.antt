-- The lines that are written, as values and as bytes: compact JSON, members in the order of their
-- names, each line with its newline.
use Rattle.std.specs.Prelude.{ℕ, ℤ, Bool, true, false, List, [], ◌∷◌, ◌++◌, codes, Option, Some, None, option_map}
use Rattle.serde_json.specs.Data.{Data, boolean, number, unsigned, string, array, object, member}
use Rattle.serde_json.specs.Find.{of_integer}
use Rattle.serde_json.specs.Written.{compact_text}
use Rattle.document_keys.specs.Names.{Root, name_text}
use Rattle.value_model.specs.declared.document.DocState.{DocState}
use Rattle.value_model.specs.declared.document.Document.{Document}
use Rattle.value_model.specs.declared.document.RpcStatus.{RpcStatus}
use Rattle.value_model.specs.declared.documents.DocRef.{DocRef}
use Rattle.value_model.specs.declared.message.StreamName.{StreamName}
use Rattle.value_model.specs.declared.message.StreamName.TheVariants.{Watch, Write}
use Rattle.value_model.specs.declared.timestamp.Timestamp.{Timestamp}
use Rattle.value_model.specs.Time.{time_text}
use Rattle.json_model.specs.Forms.{present, printed_each}
use Rattle.json_model.specs.Printed.{document_tree as body_tree, printed_document, state_text}
use Rattle.json_model.specs.declared.fault.NamingFault.{NamingFault}
use Rattle.json_model.specs.declared.fault.NamingFault.TheVariants.{WrongRoot, BadSegment, OddLength, BadPath, ReservedField}
use Rattle.json_messages.specs.Printed.{printed_listen_request, printed_status, printed_write_request}
use Rattle.mutations.specs.declared.results.WriteRequest.{WriteRequest}
use Rattle.queries.specs.declared.listen_request.ListenRequest.{ListenRequest}
use Rattle.views.specs.Row.{Row}
use Rattle.views.specs.declared.change.Change.{Change}
use Rattle.views.specs.declared.change.Kind.{Kind}
use Rattle.views.specs.declared.change.Kind.TheVariants.{Added, Removed, Modified}
use Rattle.views.specs.declared.raised.Raised.{Raised}
use Rattle.line_printer.specs.Trees.{one, two, three, four, five}

-- a tree as a line
unfoldable pub line_of : Data → List ℕ
line_of d = compact_text d ++ 10 ∷ []

-- a number without sign
abbrev pub count : ℕ → Data
count n = number (unsigned n)

-- ---- answers of a write, of a listen and of an unlisten

-- `{"ok":{"batch":B,"commit":N}}`
abbrev pub ok_tree : ℕ → ℕ → Data
ok_tree batch commit =
    one (codes "ok") (two (codes "batch") (count batch) (codes "commit") (count commit))

-- `{"ok":{"commit":N,"id":I,"targetId":T}}`
abbrev pub listening_tree : ℕ → ℤ → ℕ → Data
listening_tree id target commit =
    one (codes "ok")
    (three (codes "commit") (count commit) (codes "id") (count id)
    (codes "targetId") (number (of_integer target)))

-- `{"ok":{"commit":N,"id":I}}`
abbrev pub unlistened_tree : ℕ → ℕ → Data
unlistened_tree id commit =
    one (codes "ok") (two (codes "commit") (count commit) (codes "id") (count id))

-- ---- documents

-- a document that isn't there
abbrev pub missing_tree : List ℕ → List ℕ → Data
missing_tree name how =
    one (codes "document")
    (three (codes "exists") (boolean false) (codes "name") (string name)
    (codes "state") (string how))

-- `exists`, before the members of a document
abbrev pub existing : Data → Data
existing (object members) = object (member (codes "exists") (boolean true) members)
existing d = d

-- a document that is there
abbrev pub found_tree : List ℕ → Document → List ℕ → Data
found_tree name found how =
    one (codes "document") (existing (body_tree name found.fields found.update_time how))

-- `{"document":{..}}`: `fields` and `updateTime` stand only where the document exists and has some
abbrev pub document_tree : Root → List (List ℕ) → Option Document → DocState → Data
document_tree root key None how = missing_tree (name_text root key) (state_text how)
document_tree root key (Some found) how = found_tree (name_text root key) found (state_text how)

-- the document that a store lends
abbrev pub document_in : DocRef → Document
document_in lent = record { fields = lent.fields.now; update_time = lent.update_time }

-- ---- snapshots of listeners

-- how the kind of a change is printed
abbrev pub kind_text : Kind → List ℕ
kind_text Added = codes "ADDED"
kind_text Removed = codes "REMOVED"
kind_text Modified = codes "MODIFIED"

-- `{"kind":"ADDED","name":".."}`
abbrev pub change_tree : Root → Change → Data
change_tree root change =
    two (codes "kind") (string (kind_text change.kind))
    (codes "name") (string (name_text root change.key))

-- a document that is shown, as in the line `document` without `exists`
abbrev pub row_tree : Root → Row → Data
row_tree root row =
    printed_document root row.key row.document.fields row.document.update_time row.document.state

-- a time as a text
abbrev pub time_tree : Timestamp → Data
time_tree time = string (time_text time)

-- the members of a snapshot: the lists stand when they are empty too, a read time only where there
-- is one
abbrev pub snapshot_members : Root → ℕ → ℕ → Option Timestamp → Raised
    → List (List ℕ × Option Data)
snapshot_members root id commit read_time raised =
    (codes "changes", Some (array (printed_each (change_tree root) raised.changes))) ∷
    (codes "commit", Some (count commit)) ∷
    (codes "documents", Some (array (printed_each (row_tree root) raised.rows))) ∷
    (codes "fromCache", Some (boolean raised.from_cache)) ∷
    (codes "id", Some (count id)) ∷
    (codes "readTime", option_map time_tree read_time) ∷ []

-- `{"snapshot":{..}}`: what was raised, for the listener of this id, at this commit
abbrev pub snapshot_tree : Root → ℕ → ℕ → Option Timestamp → Raised → Data
snapshot_tree root id commit read_time raised =
    one (codes "snapshot") (object (present (snapshot_members root id commit read_time raised)))

-- ---- the stream of writes: what became of batches, and what is sent

-- `{"result":{"batch":B,"commit":N,"commitTime":".."}}`
abbrev pub result_tree : ℕ → ℕ → Timestamp → Data
result_tree batch commit time =
    one (codes "result")
    (three (codes "batch") (count batch) (codes "commit") (count commit)
    (codes "commitTime") (time_tree time))

-- `{"rejected":{"batch":B,"commit":N,"status":{..}}}`
abbrev pub rejected_tree : ℕ → ℕ → RpcStatus → Data
rejected_tree batch commit status =
    one (codes "rejected")
    (three (codes "batch") (count batch) (codes "commit") (count commit)
    (codes "status") (printed_status status))

-- `{"send":{"write":{..}}}`
abbrev pub send_write_tree : Root → WriteRequest → Data
send_write_tree root request =
    one (codes "send") (one (codes "write") (printed_write_request root request))

-- ---- the stream of listeners: what is sent, and why a listener was removed

-- `{"send":{"listen":{..}}}`
abbrev pub send_listen_tree : Root → ListenRequest → Data
send_listen_tree root request =
    one (codes "send") (one (codes "listen") (printed_listen_request root request))

-- `{"error":{"id":I,"status":{..}}}`
abbrev pub error_tree : ℕ → RpcStatus → Data
error_tree id status =
    one (codes "error") (two (codes "id") (count id) (codes "status") (printed_status status))

-- ---- refusals, each with the number of its line in the run, from 1

-- number 1
abbrev pub bad_line_tree : ℕ → List ℕ → Data
bad_line_tree line name =
    one (codes "refused")
    (four (codes "cause") (string (codes "BadLine"))
    (codes "line") (count line) (codes "member") (string name) (codes "number") (count 1))

-- how the fault of a name is printed
abbrev pub naming_text : NamingFault → List ℕ
naming_text WrongRoot = codes "WrongRoot"
naming_text BadSegment = codes "BadSegment"
naming_text OddLength = codes "OddLength"
naming_text BadPath = codes "BadPath"
naming_text ReservedField = codes "ReservedField"

-- number 2
abbrev pub bad_name_tree : ℕ → List ℕ → List ℕ → Data
bad_name_tree line why name =
    one (codes "refused")
    (five (codes "cause") (string (codes "BadName")) (codes "fault") (string why)
    (codes "line") (count line) (codes "name") (string name) (codes "number") (count 2))

-- number 3
abbrev pub unsupported_tree : ℕ → List ℕ → Data
unsupported_tree line name =
    one (codes "refused")
    (four (codes "cause") (string (codes "Unsupported"))
    (codes "line") (count line) (codes "member") (string name) (codes "number") (count 3))

-- number 4
abbrev pub too_deep_tree : ℕ → Data
too_deep_tree line =
    one (codes "refused")
    (three (codes "cause") (string (codes "TooDeep"))
    (codes "line") (count line) (codes "number") (count 4))

-- number 5
abbrev pub bad_writes_tree : ℕ → ℕ → Data
bad_writes_tree line writes =
    one (codes "refused")
    (four (codes "cause") (string (codes "BadWrites")) (codes "count") (count writes)
    (codes "line") (count line) (codes "number") (count 5))

-- number 6, with the number of the rule that the query breaks
abbrev pub bad_query_tree : ℕ → ℕ → Data
bad_query_tree line fault =
    one (codes "refused")
    (four (codes "cause") (string (codes "BadQuery")) (codes "fault") (count fault)
    (codes "line") (count line) (codes "number") (count 6))

-- a refusal of the id of a listener, with its cause and its number
abbrev pub listener_tree : List ℕ → ℕ → ℕ → ℕ → Data
listener_tree cause line id which =
    one (codes "refused")
    (four (codes "cause") (string cause) (codes "id") (count id)
    (codes "line") (count line) (codes "number") (count which))

-- number 7
abbrev pub listener_taken_tree : ℕ → ℕ → Data
listener_taken_tree line id = listener_tree (codes "ListenerTaken") line id 7

-- number 8
abbrev pub no_listener_tree : ℕ → ℕ → Data
no_listener_tree line id = listener_tree (codes "NoListener") line id 8

-- how the name of a stream is printed
abbrev pub stream_text : StreamName → List ℕ
stream_text Watch = codes "watch"
stream_text Write = codes "write"

-- number 9, and whether the stream was open
abbrev pub stream_state_tree : ℕ → StreamName → Bool → Data
stream_state_tree line stream is_open =
    one (codes "refused")
    (five (codes "cause") (string (codes "StreamState"))
    (codes "line") (count line) (codes "number") (count 9)
    (codes "open") (boolean is_open) (codes "stream") (string (stream_text stream)))

-- number 10
abbrev pub bad_message_tree : ℕ → StreamName → List ℕ → Data
bad_message_tree line stream name =
    one (codes "refused")
    (five (codes "cause") (string (codes "BadMessage"))
    (codes "line") (count line) (codes "member") (string name) (codes "number") (count 10)
    (codes "stream") (string (stream_text stream)))

-- number 11
abbrev pub too_long_tree : ℕ → Data
too_long_tree line =
    one (codes "refused")
    (three (codes "cause") (string (codes "LineTooLong"))
    (codes "line") (count line) (codes "number") (count 11))

-- number 12
abbrev pub ids_spent_tree : ℕ → Data
ids_spent_tree line =
    one (codes "refused")
    (three (codes "cause") (string (codes "IdsSpent"))
    (codes "line") (count line) (codes "number") (count 12))
