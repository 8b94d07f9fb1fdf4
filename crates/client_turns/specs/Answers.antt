-- What an event comes to, but for the snapshots that it raises and the requests that go out behind them.
use Rattle.std.specs.Prelude.{◌≡◌, ℕ, ◌+◌, Bool, ◌&&◌, not, pos, ℤ, List, [], ◌∷◌, length, nat_lt, Option, Some, None, if◌then◌else◌}
use Rattle.value_model.specs.declared.timestamp.Timestamp.{Timestamp}
use Rattle.mutations.specs.declared.write.Write.{Write}
use Rattle.record_codec.specs.declared.commit.Commit.TheVariants.{Enqueue, Allocate}
use Rattle.queries.specs.declared.target.Target.{Target}
use Rattle.target_cache.specs.Cache.{TellsId, id_at}
use Rattle.durable_state.specs.Documents.{document_of, standing_of}
use Rattle.durable_state.specs.State.{State, most_commits}
use Rattle.client_events.specs.declared.event.Event.{Event}
use Rattle.client_events.specs.declared.event.Event.TheVariants as event
use Rattle.views.specs.Viewed.{Viewed}
use Rattle.client_turns.specs.declared.refusal.Refusal.TheVariants.{ListenerTaken, NoListener, IdsSpent}
use Rattle.client_turns.specs.Hearing.{HeardTurn}
use Rattle.client_turns.specs.Lines.{wrote, listening, unlistened, document}
use Rattle.client_turns.specs.Past.{Turn, Past, listener, steps_of}
use Rattle.client_turns.specs.Turns.{answered, commits, refused}
use Rattle.client_turns.specs.Watching.{is_watched}
use Rattle.client_turns.specs.Writing.{WrittenTurn, bad_turn, closed_turn, is_open, is_stream_open, opened_turn}

-- the writes are the next batch, where a number is left for its commit
abbrev pub enqueued : State → Timestamp → List Write → Turn
enqueued s at writes =
    if nat_lt s.number most_commits
    then commits (Enqueue (record { id = s.next_batch; at = at; writes = writes }))
    (wrote s.next_batch (s.number + 1) ∷ [])
    else refused IdsSpent

-- the greatest id that a target may have
abbrev pub last_target : ℕ
last_target = 2147483646

-- a number is left for a commit, and an id for a target
abbrev pub are_left : State → Bool
are_left s = nat_lt s.number most_commits && not (nat_lt last_target (id_at (length s.rows)))

-- A listener on a target that has this id already; or else the target gets the next one, where one is left.
abbrev pub listens : State → ℕ → Target → Option ℤ → Turn
listens s id query (Some target) = answered (listening id target s.number ∷ [])
listens s id query None =
    if are_left s
    then commits (Allocate (id_at (length s.rows)) query)
    (listening id (pos (id_at (length s.rows))) (s.number + 1) ∷ [])
    else refused IdsSpent

-- the id is that of a listener; or it begins one, on the target's row if it has one
abbrev pub Begins : State → ℕ → Target → Option Viewed → Turn → Type 0
Begins s id query (Some view) t = t ≡ refused (ListenerTaken id)
Begins s id query None t = (found : Option ℤ) × TellsId s.rows query found × (t ≡ listens s id query found)

-- the listener ends, if there is one; the row of its target stays
abbrev pub ends : State → ℕ → Option Viewed → Turn
ends s id None = refused (NoListener id)
ends s id (Some view) = answered (unlistened id s.number ∷ [])

-- what an event comes to, from the state before it and what the client has heard
abbrev pub Answers : State → Past → Event → Turn → Type 0
Answers s past (event.Write at writes) t = t ≡ enqueued s at writes
Answers s past (event.Get key) t =
    t ≡ answered (document key (document_of s key) (standing_of s key) ∷ [])
Answers s past (event.Listen id query) t = Begins s id query (listener id past) t
Answers s past (event.Unlisten id) t = t ≡ ends s id (listener id past)
Answers s past (event.Opened name) t = t ≡ opened_turn name (is_stream_open name past)
Answers s past (event.Closed name status) t = t ≡ closed_turn s (steps_of past) name status (is_stream_open name past)
Answers s past (event.Written response) t = WrittenTurn s (steps_of past) response (is_open (steps_of past)) t
Answers s past (event.BadMessage name member) t = t ≡ bad_turn name member (is_stream_open name past)
Answers s past (event.Watch response) t = HeardTurn s past response (is_watched past) t
Answers s past event.Timer t = t ≡ answered []
