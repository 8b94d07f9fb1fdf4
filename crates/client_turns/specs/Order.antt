-- Write order: how the pending batches went out since the stream of writes was opened last.
use Rattle.std.specs.Prelude.{◌≡◌, ℕ, ◌+◌, ◌≤◌, true, List, [], ◌∷◌, ◌++◌, map as each, length, drop, take, Option, Some}
use Rattle.document_keys.specs.Names.{Root}
use Rattle.mutations.specs.declared.batch.Batch.{Batch}
use Rattle.mutations.specs.declared.results.WriteRequest.TheVariants.{Batch as a_batch}
use Rattle.mutations.specs.declared.write.Write.{Write}
use Rattle.record_codec.specs.declared.commit.Commit.{Commit}
use Rattle.record_codec.specs.declared.commit.Commit.TheVariants.{Enqueue, Acknowledge, Reject}
use Rattle.client_events.specs.declared.event.Event.{Event}
use Rattle.client_events.specs.declared.event.Event.TheVariants as event
use Rattle.durable_state.specs.State.{State}
use Rattle.value_model.specs.declared.message.StreamName.TheVariants as stream
use Rattle.write_pipeline.specs.Order.{outstanding}
use Rattle.client_turns.specs.Lines.{Line, send}
use Rattle.client_turns.specs.Past.{Entry, Past, steps_of}
use Rattle.client_turns.specs.Turn.{IsTurn, is_heard}
use Rattle.client_turns.specs.Turns.{after}
use Rattle.client_turns.specs.Writing.{is_open}

-- ---- what was heard, one after another

-- the state after what was heard, which began in this one
abbrev pub now : State → Past → State
now first [] = first
now first (entry ∷ past) = after entry.state entry.turn.commit

-- an event was heard next: it has its turn in the state after the others
pub record IsHeardNext (root : Root) (first : State) (past : Past) (entry : Entry) : Type 0 where
  pub state : entry.state ≡ now first past
  pub turn : IsTurn root entry.state past entry.event entry.turn
  pub heard : is_heard entry.turn.refusal ≡ true

-- each event was heard after those before it
abbrev pub AreHeard : Root → State → Past → Type 0
AreHeard root first [] = Unit {0}
AreHeard root first (entry ∷ past) = AreHeard root first past × IsHeardNext root first past entry

-- ---- what went out since the stream was opened

-- nothing, if the event opens the stream of writes
abbrev pub unless_opened : {X : Type 0} → Event → List X → List X
unless_opened (event.Opened stream.Write) xs = []
unless_opened _ xs = xs

-- the writes of the batches that these lines send
abbrev pub writes_in : List Line → List (List Write)
writes_in [] = []
writes_in (send (a_batch token writes) ∷ lines) = writes ∷ writes_in lines
writes_in (_ ∷ lines) = writes_in lines

-- the writes of the batches that were sent, in order
abbrev pub sent_since : Past → List (List Write)
sent_since [] = []
sent_since (entry ∷ past) = unless_opened entry.event (sent_since past) ++ writes_in entry.turn.lines

-- the batch that a commit puts at the end
abbrev pub joined : Option Commit → List Batch
joined (Some (Enqueue batch)) = batch ∷ []
joined _ = []

-- the batches that were pending when the stream was opened, or at first, and then those that joined
abbrev pub queue_since : State → Past → List Batch
queue_since first [] = first.batches
queue_since first (entry ∷ past) = begun entry.event (queue_since first past) ++ joined entry.turn.commit
  where
    begun : Event → List Batch → List Batch
    begun (event.Opened stream.Write) batches = entry.state.batches
    begun _ batches = batches

-- how many batches a commit takes from the front
abbrev pub taken : Option Commit → ℕ
taken (Some (Acknowledge id at results)) = 1
taken (Some (Reject id)) = 1
taken _ = 0

-- how many have left since
abbrev pub left_since : Past → ℕ
left_since [] = 0
left_since (entry ∷ past) = kept entry.event (left_since past) + taken entry.turn.commit
  where
    kept : Event → ℕ → ℕ
    kept (event.Opened stream.Write) n = 0
    kept _ n = n

-- The batches that were sent are the first ones of those that were pending and joined, none skipped and in order. Those that left
-- were the first ones too, so what is pending is the rest; and on an open stream the outstanding ones are the first of that, and
-- at most 10.
pub record IsInOrder (first : State) (past : Past) : Type 0 where
  pub sent : sent_since past ≡ each (λ (b : Batch). b.writes) (take (length (sent_since past)) (queue_since first past))
  pub pending : (now first past).batches ≡ drop (left_since past) (queue_since first past)
  pub counts : is_open (steps_of past) ≡ true → left_since past + outstanding (steps_of past) ≡ length (sent_since past)
  pub few : outstanding (steps_of past) ≤ 10

-- whatever was heard, the batches went out in order
abbrev pub WritesGoInOrder : Type 0
WritesGoInOrder = (root : Root) (first : State) (past : Past) → AreHeard root first past → IsInOrder first past
