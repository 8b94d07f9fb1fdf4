-- what is done on the stream of writes
use Rattle.std.proofs.Common.{◌≡◌, ℕ, ◌+◌, ◌-◌, ◌≤◌, Bool, true, false, List, [], ◌∷◌, ◌++◌, map as each, length, drop, nat_lt, Option, Some, None, if◌then◌else◌, refl, sym, subst, arith, length-append}
use Rattle.client_events.specs.declared.event.Event.{Event}
use Rattle.client_events.specs.declared.event.Event.TheVariants as event
use Rattle.durable_state.specs.State.{State, most_commits}
use Rattle.mutations.specs.declared.batch.Batch.{Batch}
use Rattle.mutations.specs.declared.results.WriteRequest.TheVariants.{Batch as a_batch, Handshake}
use Rattle.mutations.specs.declared.results.WriteResponse.{WriteResponse}
use Rattle.queries.specs.declared.target.Target.{Target}
use Rattle.record_codec.specs.declared.commit.Commit.TheVariants.{Acknowledge, Allocate, Drop, Enqueue, Point, Reset}
use Rattle.value_model.specs.declared.message.ListenResponse.{ListenResponse}
use Rattle.value_model.specs.declared.message.StreamName.TheVariants as stream
use Rattle.target_cache.specs.Cache.{id_at}
use Rattle.views.specs.Viewed.{Viewed}
use Rattle.write_pipeline.specs.Order.{Steps, acknowledged, kept, outstanding, sent, shaken}
use Rattle.client_turns.specs.Answers.{Answers, Begins, are_left, ends, listens}
use Rattle.client_turns.specs.Hearing.{Blanks, HeardTurn, dropped, ended, held, mismatch, none_held, nothing, old_point, point, point_spent, fails as fails_heard}
use Rattle.client_turns.specs.Lines.{Line, Told, add, document, error, listening, rejected, remove, result, send, snapshot, unlistened, wrote}
use Rattle.client_turns.specs.Past.{Past, Turn, listener, sent_in, steps_by, steps_of}
use Rattle.client_turns.specs.Turn.{snapshot_line}
use Rattle.client_turns.specs.Turns.{after, commits, refused}
use Rattle.client_turns.specs.Watching.{is_watched}
use Rattle.client_turns.specs.Writing.{IsWritten, WrittenTurn, acknowledges, bad_turn, closed_turn, fails, is_open, opened_turn, shakes}
use Rattle.client_turns.specs.declared.refusal.Refusal.TheVariants.{IdsSpent}

-- ---- the batches that lines send

pub sent_behind : (xs ys : List Line) (h : Steps) → sent_in (xs ++ ys) h ≡ sent_in ys (sent_in xs h)
sent_behind [] ys h = refl
sent_behind (wrote b c ∷ xs) ys h = sent_behind xs ys h
sent_behind (listening i t c ∷ xs) ys h = sent_behind xs ys h
sent_behind (unlistened i c ∷ xs) ys h = sent_behind xs ys h
sent_behind (document k d w ∷ xs) ys h = sent_behind xs ys h
sent_behind (result b c t ∷ xs) ys h = sent_behind xs ys h
sent_behind (rejected b c t ∷ xs) ys h = sent_behind xs ys h
sent_behind (snapshot c r t ∷ xs) ys h = sent_behind xs ys h
sent_behind (error i t ∷ xs) ys h = sent_behind xs ys h
sent_behind (add t r ∷ xs) ys h = sent_behind xs ys h
sent_behind (remove t ∷ xs) ys h = sent_behind xs ys h
sent_behind (send Handshake ∷ xs) ys h = sent_behind xs ys h
sent_behind (send (a_batch token writes) ∷ xs) ys h = sent_behind xs ys (sent ∷ h)

pub sent_told : (s : State) (ts : List Told) (h : Steps) → sent_in (each (snapshot_line s) ts) h ≡ h
sent_told s [] h = refl
sent_told s (t ∷ ts) h = sent_told s ts h

-- ---- what is outstanding is pending

pub length_more : (bs : List Batch) (b : Batch) → length (bs ++ b ∷ []) ≡ length bs + 1
length_more bs b = length-append bs (b ∷ [])

length_behind : (bs : List Batch) → length (drop 1 bs) ≡ length bs - 1
length_behind [] = refl
length_behind (b ∷ bs) = omega arith

-- at most as many are outstanding as the state after the turn has pending
abbrev Few : State → Event → Steps → Turn → Type 0
Few s e h t = outstanding (steps_by e t.refusal h) ≤ length (after s t.commit).batches

few_left : (s : State) (e : Event) (h : Steps) (b : Bool) (some none : Turn) → Few s e h some → Few s e h none → Few s e h (if b then some else none)
few_left s e h true some none first second = first
few_left s e h false some none first second = second

few_written : (s : State) (h : Steps) (response : WriteResponse) (t : Turn) → IsWritten s h response t → outstanding h ≤ length s.batches → Few s (event.Written response) h t
few_written s h response t (shakes fits is) few =
    subst (Few s (event.Written response) h) (sym is)
    (subst (λ (b : Bool). outstanding (kept response.token ∷ (if b then acknowledged else shaken) ∷ h) ≤ length s.batches) (sym fits.0) few)
few_written s h response t (acknowledges batch time first at fits is) few =
    subst (Few s (event.Written response) h) (sym is)
    (few_left s (event.Written response) h (nat_lt s.number most_commits)
    (commits (Acknowledge batch.id time response.results) (result batch.id (s.number + 1) time ∷ [])) (refused IdsSpent)
    (subst (λ (b : Bool). outstanding (kept response.token ∷ (if b then acknowledged else shaken) ∷ h) ≤ length (drop 1 s.batches)) (sym fits.0)
    (let l = length_behind s.batches in omega (arith, l, few)))
    (omega arith))
few_written s h response t (fails member not is) few = subst (Few s (event.Written response) h) (sym is) (omega arith)

few_message : (s : State) (h : Steps) (response : WriteResponse) (opening : Bool) (t : Turn) → WrittenTurn s h response opening t → outstanding h ≤ length s.batches → Few s (event.Written response) h t
few_message s h response true t is few = few_written s h response t is few
few_message s h response false t is few = subst (Few s (event.Written response) h) (sym is) (omega arith)

few_begins : (s : State) (h : Steps) (id : ℕ) (query : Target) (view : Option Viewed) (t : Turn) → Begins s id query view t → outstanding h ≤ length s.batches → Few s (event.Listen id query) h t
few_begins s h id query (Some view) t is few = subst (Few s (event.Listen id query) h) (sym is) few
few_begins s h id query None t is few = subst (Few s (event.Listen id query) h) (sym is.2) (by is.0)
  where
    by : (found : Option _) → Few s (event.Listen id query) h (listens s id query found)
    by (Some target) = few
    by None = few_left s (event.Listen id query) h (are_left s) (commits (Allocate (id_at (length s.rows)) query) (listening id _ (s.number + 1) ∷ [])) (refused IdsSpent) few few

few_ends : (s : State) (h : Steps) (id : ℕ) (view : Option Viewed) → outstanding h ≤ length s.batches → Few s (event.Unlisten id) h (ends s id view)
few_ends s h id None few = few
few_ends s h id (Some view) few = few

few_blanks : (s : State) (past : Past) (response : ListenResponse) (ids : List ℕ) (lines : List Line) (t : Turn) → Blanks s ids lines t → outstanding (steps_of past) ≤ length s.batches → Few s (event.Watch response) (steps_of past) t
few_blanks s past response ids lines t (held any is) few = subst (Few s (event.Watch response) (steps_of past)) (sym is) (few_left s (event.Watch response) (steps_of past) (nat_lt s.number most_commits) (commits (Reset ids) lines) (refused IdsSpent) few few)
few_blanks s past response ids lines t (none_held none is) few = subst (Few s (event.Watch response) (steps_of past)) (sym is) few

few_heard : (s : State) (past : Past) (response : ListenResponse) (opening : Bool) (t : Turn) → HeardTurn s past response opening t → outstanding (steps_of past) ≤ length s.batches → Few s (event.Watch response) (steps_of past) t
few_heard s past response false t is few = subst (Few s (event.Watch response) (steps_of past)) (sym is) few
few_heard s past response true t (nothing gives is) few = subst (Few s (event.Watch response) (steps_of past)) (sym is) few
few_heard s past response true t (old_point at gives old is) few = subst (Few s (event.Watch response) (steps_of past)) (sym is) few
few_heard s past response true t (point at entries rows gives below commits_it is) few = subst (Few s (event.Watch response) (steps_of past)) (sym is) (few_left s (event.Watch response) (steps_of past) (nat_lt s.number most_commits) (commits (Point at entries rows) []) (refused IdsSpent) few few)
few_heard s past response true t (point_spent at gives below many is) few = subst (Few s (event.Watch response) (steps_of past)) (sym is) few
few_heard s past response true t (mismatch id told count ids gives have blanks) few = few_blanks s past response ids [] t blanks few
few_heard s past response true t (ended ids status those listeners gives none have are blanks) few = few_blanks s past response those (each (λ l. error l status) listeners) t blanks few
few_heard s past response true t (dropped ids status keys those listeners gives drops some blanked are is) few = subst (Few s (event.Watch response) (steps_of past)) (sym is) (few_left s (event.Watch response) (steps_of past) (nat_lt s.number most_commits) (commits (Drop keys those) (each (λ l. error l status) listeners)) (refused IdsSpent) few few)
few_heard s past response true t (fails_heard why refuses is) few = subst (Few s (event.Watch response) (steps_of past)) (sym is) few

pub few_by : (s : State) (past : Past) (e : Event) (t : Turn) → Answers s past e t → outstanding (steps_of past) ≤ length s.batches → Few s e (steps_of past) t
few_by s past (event.Write at writes) t is few =
    subst (Few s (event.Write at writes) (steps_of past)) (sym is)
    (few_left s (event.Write at writes) (steps_of past) (nat_lt s.number most_commits)
    (commits (Enqueue (record { id = s.next_batch; at = at; writes = writes })) (wrote s.next_batch (s.number + 1) ∷ [])) (refused IdsSpent)
    (let l = length_more s.batches (record { id = s.next_batch; at = at; writes = writes }) in omega (arith, l, few)) few)
few_by s past (event.Get key) t is few = subst (Few s (event.Get key) (steps_of past)) (sym is) few
few_by s past (event.Listen id query) t is few = few_begins s (steps_of past) id query (listener id past) t is few
few_by s past (event.Unlisten id) t is few = subst (Few s (event.Unlisten id) (steps_of past)) (sym is) (few_ends s (steps_of past) id (listener id past) few)
few_by s past (event.Opened stream.Watch) t is few = subst (Few s (event.Opened stream.Watch) (steps_of past)) (sym is) (by (is_watched past))
  where
    by : (b : Bool) → Few s (event.Opened stream.Watch) (steps_of past) (opened_turn stream.Watch b)
    by true = few
    by false = few
few_by s past (event.Opened stream.Write) t is few = omega arith
few_by s past (event.Closed stream.Watch status) t is few = subst (Few s (event.Closed stream.Watch status) (steps_of past)) (sym is) (by (is_watched past))
  where
    by : (b : Bool) → Few s (event.Closed stream.Watch status) (steps_of past) (closed_turn s (steps_of past) stream.Watch status b)
    by true = few
    by false = few
few_by s past (event.Closed stream.Write status) t is few = omega arith
few_by s past (event.Written response) t is few = few_message s (steps_of past) response (is_open (steps_of past)) t is few
few_by s past (event.Watch response) t is few = few_heard s past response (is_watched past) t is few
few_by s past (event.BadMessage stream.Watch member) t is few = subst (Few s (event.BadMessage stream.Watch member) (steps_of past)) (sym is) (by (is_watched past))
  where
    by : (b : Bool) → Few s (event.BadMessage stream.Watch member) (steps_of past) (bad_turn stream.Watch member b)
    by true = few
    by false = few
few_by s past (event.BadMessage stream.Write member) t is few = omega arith
few_by s past event.Timer t is few = subst (Few s event.Timer (steps_of past)) (sym is) few
