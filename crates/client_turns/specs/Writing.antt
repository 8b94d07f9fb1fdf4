-- What comes on the stream of writes, and what goes out on it.
use Rattle.std.specs.Prelude.{◌≡◌, ℕ, ◌+◌, Bool, true, false, nat_lt, List, [], ◌∷◌, map as each, drop, take, codes, Option, Some, None, zero, suc, if◌then◌else◌}
use Rattle.std.specs.List.{slice_get}
use Rattle.mutations.specs.declared.batch.Batch.{Batch}
use Rattle.mutations.specs.declared.results.WriteRequest.TheVariants.{Batch as a_batch, Handshake as the_first}
use Rattle.mutations.specs.declared.results.WriteResponse.{WriteResponse}
use Rattle.mutations.specs.declared.results.WriteResult.{WriteResult}
use Rattle.record_codec.specs.declared.commit.Commit.TheVariants.{Acknowledge, Reject}
use Rattle.value_model.specs.declared.document.RpcStatus.{RpcStatus}
use Rattle.value_model.specs.declared.message.StreamName.{StreamName}
use Rattle.value_model.specs.declared.message.StreamName.TheVariants as stream
use Rattle.value_model.specs.declared.timestamp.Timestamp.{Timestamp}
use Rattle.durable_state.specs.State.{State, most_commits}
use Rattle.write_pipeline.specs.Order.{Steps, closed, is_ready, latest_token, opened, outstanding, sent}
use Rattle.write_pipeline.specs.Standing.{Fails, Fits, closing_of}
use Rattle.write_pipeline.specs.declared.answer.Answer.TheVariants.{Handshake, Acknowledges}
use Rattle.write_pipeline.specs.declared.answer.Closing.{Closing}
use Rattle.write_pipeline.specs.declared.answer.Closing.TheVariants.{Kept, Rejects}
use Rattle.write_pipeline.specs.declared.answer.WriteMember.{WriteMember}
use Rattle.write_pipeline.specs.declared.answer.WriteMember.TheVariants.{WriteResults, CommitTime, TransformResults}
use Rattle.client_turns.specs.declared.refusal.Refusal.TheVariants.{BadMessage, IdsSpent, StreamState}
use Rattle.client_turns.specs.Lines.{Line, rejected, result, send}
use Rattle.client_turns.specs.Past.{Past, Turn, steps_of}
use Rattle.client_turns.specs.Turns.{answered, commits, refused}
use Rattle.client_turns.specs.Watching.{is_watched}

-- the stream was opened, and not closed since
abbrev pub is_open : Steps → Bool
is_open [] = false
is_open (opened ∷ h) = true
is_open (closed ∷ h) = false
is_open (_ ∷ h) = is_open h

-- the stream is open
abbrev pub is_stream_open : StreamName → Past → Bool
is_stream_open stream.Watch past = is_watched past
is_stream_open stream.Write past = is_open (steps_of past)

-- the first pending batch, if there is one
abbrev pub first_batch : State → Option Batch
first_batch s = slice_get s.batches 0

-- ---- what comes

-- The stream is opened, unless it is open: that of writes by a request that names the database.
abbrev pub opened_turn : StreamName → Bool → Turn
opened_turn name true = refused (StreamState name true)
opened_turn stream.Watch false = answered []
opened_turn stream.Write false = answered (send the_first ∷ [])

-- the batch is rejected, where a number is left for the commit
abbrev pub rejects : State → Option Batch → RpcStatus → Turn
rejects s None status = answered []
rejects s (Some batch) status =
    if nat_lt s.number most_commits
    then commits (Reject batch.id) (rejected batch.id (s.number + 1) status ∷ [])
    else refused IdsSpent

-- the first pending batch is rejected, or none is
abbrev pub closes : State → RpcStatus → Closing → Turn
closes s status Kept = answered []
closes s status Rejects = rejects s (first_batch s) status

-- the stream is closed, if it is open; that of writes may reject a batch
abbrev pub closed_turn : State → Steps → StreamName → RpcStatus → Bool → Turn
closed_turn s h name status false = refused (StreamState name false)
closed_turn s h stream.Watch status true = answered []
closed_turn s h stream.Write status true = closes s status (closing_of h status.code)

-- a message with a fault comes, if the stream is open
abbrev pub bad_turn : StreamName → List ℕ → Bool → Turn
bad_turn name member true = refused (BadMessage name member)
bad_turn name member false = refused (StreamState name false)

-- the batch was committed at this time, and is settled where a number is left for the commit
abbrev pub settles : State → ℕ → Timestamp → List WriteResult → Turn
settles s batch time results =
    if nat_lt s.number most_commits
    then commits (Acknowledge batch time results) (result batch (s.number + 1) time ∷ [])
    else refused IdsSpent

-- the name of the member by which a message doesn't fit
abbrev pub member_name : WriteMember → List ℕ
member_name WriteResults = codes "writeResults"
member_name CommitTime = codes "commitTime"
member_name TransformResults = codes "transformResults"

-- What a message on the open stream comes to: it is the handshake, it is the result of the first pending batch, or it is a bad
-- one.
pub data IsWritten (s : State) (h : Steps) (response : WriteResponse) (t : Turn) : Type 0 where
  shakes : Fits h (first_batch s) response Handshake → t ≡ answered [] → IsWritten s h response t
  acknowledges : (batch : Batch) (time : Timestamp) → first_batch s ≡ Some batch → response.commit_time ≡ Some time
      → Fits h (first_batch s) response Acknowledges → t ≡ settles s batch.id time response.results
      → IsWritten s h response t
  fails : (member : WriteMember) → Fails h (first_batch s) response member
      → t ≡ refused (BadMessage stream.Write (member_name member)) → IsWritten s h response t

-- a message comes, if the stream is open
abbrev pub WrittenTurn : State → Steps → WriteResponse → Bool → Turn → Type 0
WrittenTurn s h response true t = IsWritten s h response t
WrittenTurn s h response false t = t ≡ refused (StreamState stream.Write false)

-- ---- what goes out

-- the batches that go out: the next pending ones, while fewer than 10 are outstanding
abbrev pub to_send : Steps → List Batch → List Batch
to_send h batches = if is_ready h then drop (outstanding h) (take 10 batches) else []

-- so many batches were sent
abbrev pub sent_times : ℕ → Steps → Steps
sent_times zero h = h
sent_times (suc n) h = sent ∷ sent_times n h

-- a request with the writes of a batch, and the latest token
abbrev pub request_of : List ℕ → Batch → Line
request_of token batch = send (a_batch token batch.writes)

-- the requests that go out behind an event
abbrev pub requests : Steps → List Batch → List Line
requests h batches = each (request_of (latest_token h)) (to_send h batches)
