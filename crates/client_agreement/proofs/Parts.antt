-- the parts of an event's turn: its answer, and lines of which only some are requests on the stream of listeners
use Rattle.std.proofs.Common.{◌≡◌, ℕ, ◌+◌, Bool, true, false, ◌&&◌, nat_lt, List, [], ◌∷◌, ◌++◌, map as each, length, Option, Some, None, if◌then◌else◌, sym, ap, subst, ◌∙◌}
use Rattle.std.proofs.lemmas.Bool.{false≢true}
use Rattle.document_keys.specs.Names.{Root}
use Rattle.client_events.specs.declared.event.Event.{Event}
use Rattle.client_events.specs.declared.event.Event.TheVariants as event
use Rattle.durable_state.specs.State.{State, most_commits}
use Rattle.mutations.specs.declared.batch.Batch.{Batch}
use Rattle.mutations.specs.declared.results.WriteResponse.{WriteResponse}
use Rattle.queries.specs.declared.target.Target.{Target}
use Rattle.record_codec.specs.declared.commit.Commit.{Commit}
use Rattle.record_codec.specs.declared.commit.Commit.TheVariants.{Acknowledge, Allocate, Drop, Enqueue, Point, Reject, Reset}
use Rattle.target_cache.specs.Cache.{id_at}
use Rattle.value_model.specs.declared.document.RpcStatus.{RpcStatus}
use Rattle.value_model.specs.declared.message.ListenResponse.{ListenResponse}
use Rattle.value_model.specs.declared.message.StreamName.{StreamName}
use Rattle.value_model.specs.declared.message.StreamName.TheVariants as stream
use Rattle.views.specs.Viewed.{Viewed}
use Rattle.write_pipeline.specs.Order.{Steps, latest_token}
use Rattle.write_pipeline.specs.Standing.{closing_of}
use Rattle.write_pipeline.specs.declared.answer.Closing.{Closing}
use Rattle.write_pipeline.specs.declared.answer.Closing.TheVariants.{Kept as KeepsAll, Rejects}
use Rattle.client_turns.specs.Answers.{Answers, Begins, are_left, ends, listens}
use Rattle.client_turns.specs.Asking.{AsksIf, resets_by}
use Rattle.client_turns.specs.Hearing.{Blanks, HeardTurn, dropped, ended, held, mismatch, none_held, nothing, old_point, point, point_spent, fails as fails_heard}
use Rattle.client_turns.specs.Lines.{Line, Told, add, error, listening, rejected, remove, result, wrote}
use Rattle.client_turns.specs.Past.{Past, Turn, listener, steps_by, steps_of}
use Rattle.client_turns.specs.Turn.{IsTurn, SettlesAfter, answered_next, batches_behind, is_heard, snapshot_line, with_limbo}
use Rattle.client_turns.specs.Turns.{after, commits, refused}
use Rattle.client_turns.specs.Watching.{is_watched}
use Rattle.client_turns.specs.Writing.{WrittenTurn, acknowledges, bad_turn, closed_turn, closes, fails, first_batch, is_open, is_stream_open, opened_turn, rejects, request_of, shakes, to_send}
use Rattle.client_turns.specs.declared.refusal.Refusal.{Refusal}
use Rattle.client_turns.specs.declared.refusal.Refusal.TheVariants.{IdsSpent}

-- ---- lines that are no requests on the stream of listeners

abbrev pub IsNoRequest : Line → Type 0
IsNoRequest (add t row) = ⊥
IsNoRequest (remove t) = ⊥
IsNoRequest _ = Unit {0}

abbrev pub AreNoRequests : List Line → Type 0
AreNoRequests [] = Unit {0}
AreNoRequests (line ∷ lines) = IsNoRequest line × AreNoRequests lines

pub no_requests_behind : (xs ys : List Line) → AreNoRequests xs → AreNoRequests ys → AreNoRequests (xs ++ ys)
no_requests_behind [] ys none more = more
no_requests_behind (x ∷ xs) ys none more = (none.0, no_requests_behind xs ys none.1 more)

if_plain : (b : Bool) (some none : Turn) → AreNoRequests some.lines → AreNoRequests none.lines → AreNoRequests (if b then some else none).lines
if_plain true some none first second = first
if_plain false some none first second = second

errors_plain : (status : RpcStatus) (ls : List ℕ) → AreNoRequests (each (λ l. error l status) ls)
errors_plain status [] = tt
errors_plain status (l ∷ ls) = (tt, errors_plain status ls)

told_plain : (s : State) (ts : List Told) → AreNoRequests (each (snapshot_line s) ts)
told_plain s [] = tt
told_plain s (t ∷ ts) = (tt, told_plain s ts)

sent_plain : (token : List ℕ) (bs : List Batch) → AreNoRequests (each (request_of token) bs)
sent_plain token [] = tt
sent_plain token (b ∷ bs) = (tt, sent_plain token bs)

abbrev IsPlain : Turn → Type 0
IsPlain t = AreNoRequests t.lines

plain_begins : (s : State) (id : ℕ) (query : Target) (view : Option Viewed) (t : Turn) → Begins s id query view t → IsPlain t
plain_begins s id query (Some view) t is = subst IsPlain (sym is) tt
plain_begins s id query None t is = subst IsPlain (sym is.2) (by is.0)
  where
    by : (found : Option _) → IsPlain (listens s id query found)
    by (Some target) = (tt, tt)
    by None = if_plain (are_left s) (commits (Allocate (id_at (length s.rows)) query) (listening id _ (s.number + 1) ∷ [])) (refused IdsSpent) (tt, tt) tt

plain_ends : (s : State) (id : ℕ) (view : Option Viewed) → IsPlain (ends s id view)
plain_ends s id None = tt
plain_ends s id (Some view) = (tt, tt)

plain_opened : (name : StreamName) (b : Bool) → IsPlain (opened_turn name b)
plain_opened name true = tt
plain_opened stream.Watch false = tt
plain_opened stream.Write false = (tt, tt)

plain_bad : (name : StreamName) (member : List ℕ) (b : Bool) → IsPlain (bad_turn name member b)
plain_bad name member true = tt
plain_bad name member false = tt

plain_rejects : (s : State) (status : RpcStatus) (first : Option Batch) → IsPlain (rejects s first status)
plain_rejects s status None = tt
plain_rejects s status (Some batch) = if_plain (nat_lt s.number most_commits) (commits (Reject batch.id) (rejected batch.id (s.number + 1) status ∷ [])) (refused IdsSpent) (tt, tt) tt

plain_closes : (s : State) (status : RpcStatus) (closing : Closing) → IsPlain (closes s status closing)
plain_closes s status KeepsAll = tt
plain_closes s status Rejects = plain_rejects s status (first_batch s)

plain_closed : (s : State) (h : Steps) (name : StreamName) (status : RpcStatus) (b : Bool) → IsPlain (closed_turn s h name status b)
plain_closed s h name status false = tt
plain_closed s h stream.Watch status true = tt
plain_closed s h stream.Write status true = plain_closes s status (closing_of h status.code)

plain_written : (s : State) (h : Steps) (response : WriteResponse) (b : Bool) (t : Turn) → WrittenTurn s h response b t → IsPlain t
plain_written s h response true t (shakes fits is) = subst IsPlain (sym is) tt
plain_written s h response true t (acknowledges batch time first at fits is) = subst IsPlain (sym is) (if_plain (nat_lt s.number most_commits) (commits (Acknowledge batch.id time response.results) (result batch.id (s.number + 1) time ∷ [])) (refused IdsSpent) (tt, tt) tt)
plain_written s h response true t (fails member not is) = subst IsPlain (sym is) tt
plain_written s h response false t is = subst IsPlain (sym is) tt

plain_left : (s : State) (commit : Commit) (lines : List Line) → AreNoRequests lines → IsPlain (if nat_lt s.number most_commits then commits commit lines else refused IdsSpent)
plain_left s commit lines none = if_plain (nat_lt s.number most_commits) (commits commit lines) (refused IdsSpent) none tt

plain_blanks : (s : State) (ids : List ℕ) (lines : List Line) (t : Turn) → AreNoRequests lines → Blanks s ids lines t → IsPlain t
plain_blanks s ids lines t none (held any is) = subst IsPlain (sym is) (plain_left s (Reset ids) lines none)
plain_blanks s ids lines t none (none_held not is) = subst IsPlain (sym is) none

plain_heard : (s : State) (past : Past) (response : ListenResponse) (b : Bool) (t : Turn) → HeardTurn s past response b t → IsPlain t
plain_heard s past response false t is = subst IsPlain (sym is) tt
plain_heard s past response true t (nothing gives is) = subst IsPlain (sym is) tt
plain_heard s past response true t (old_point at gives old is) = subst IsPlain (sym is) tt
plain_heard s past response true t (point at entries rows gives below commits is) = subst IsPlain (sym is) (plain_left s (Point at entries rows) [] tt)
plain_heard s past response true t (point_spent at gives below many is) = subst IsPlain (sym is) tt
plain_heard s past response true t (mismatch id told count ids gives have blanks) = plain_blanks s ids [] t tt blanks
plain_heard s past response true t (ended ids status those listeners gives none have are blanks) = plain_blanks s those (each (λ l. error l status) listeners) t (errors_plain status listeners) blanks
plain_heard s past response true t (dropped ids status keys those listeners gives drops some blanked are is) = subst IsPlain (sym is) (plain_left s (Drop keys those) (each (λ l. error l status) listeners) (errors_plain status listeners))
plain_heard s past response true t (fails_heard why refuses is) = subst IsPlain (sym is) tt

pub answer_plain : (s : State) (past : Past) (e : Event) (t : Turn) → Answers s past e t → AreNoRequests t.lines
answer_plain s past (event.Write at writes) t is = subst IsPlain (sym is) (plain_left s (Enqueue (record { id = s.next_batch; at = at; writes = writes })) (wrote s.next_batch (s.number + 1) ∷ []) (tt, tt))
answer_plain s past (event.Get key) t is = subst IsPlain (sym is) (tt, tt)
answer_plain s past (event.Listen id query) t is = plain_begins s id query (listener id past) t is
answer_plain s past (event.Unlisten id) t is = subst IsPlain (sym is) (plain_ends s id (listener id past))
answer_plain s past (event.Opened name) t is = subst IsPlain (sym is) (plain_opened name (is_stream_open name past))
answer_plain s past (event.Closed name status) t is = subst IsPlain (sym is) (plain_closed s (steps_of past) name status (is_stream_open name past))
answer_plain s past (event.Written response) t is = plain_written s (steps_of past) response (is_open (steps_of past)) t is
answer_plain s past (event.BadMessage name member) t is = subst IsPlain (sym is) (plain_bad name member (is_stream_open name past))
answer_plain s past (event.Watch response) t is = plain_heard s past response (is_watched past) t is
answer_plain s past event.Timer t is = subst IsPlain (sym is) tt

-- ---- the parts of a turn that is heard

-- The answer, snapshots behind it, requests on the stream of listeners, and batches. The requests are those of the past with the
-- event as it was settled.
pub record Parts (root : Root) (s : State) (past : Past) (e : Event) (t : Turn) : Type 0 where
  pub answer : Turn
  pub answers : Answers s past e answer
  pub refusal : t.refusal ≡ answer.refusal
  pub commit : t.commit ≡ answer.commit
  pub told : List Told
  pub settled : Turn
  pub settled_refusal : settled.refusal ≡ t.refusal
  pub settled_commit : settled.commit ≡ t.commit
  pub settled_limbo : settled.limbo ≡ t.limbo
  pub front : settled.lines ≡ answer.lines ++ each (snapshot_line (after s answer.commit)) told
  pub asked : List Line
  pub asks : AsksIf (is_watched (answered_next s past e settled)) (after s t.commit) (answered_next s past e settled) (resets_by e t.commit past) asked
  pub behind : List Line
  pub plain_front : AreNoRequests settled.lines
  pub plain_behind : AreNoRequests behind
  pub lines : t.lines ≡ settled.lines ++ (asked ++ behind)

batches_plain : (r : Option Refusal) (token : List ℕ) (bs : List Batch) → AreNoRequests (Rattle.client_turns.specs.Turn.unless_refused r (each (request_of token) bs))
batches_plain None token bs = sent_plain token bs
batches_plain (Some refusal) token bs = tt

pub parts : (root : Root) (s : State) (past : Past) (e : Event) (t : Turn) → IsTurn root s past e t → is_heard t.refusal ≡ true → Parts root s past e t
parts root s past e t it heard = by (is_heard it.is_settled.answer.refusal) it.is_settled.settles heard_answer
  where
    answer : Turn
    answer = it.is_settled.answer

    settled : Turn
    settled = it.settled

    whole : Turn
    whole = with_limbo settled it.limbo

    settled_heard : is_heard settled.refusal ≡ true
    settled_heard = ap (λ (x : Turn). is_heard x.refusal) (sym it.is) ∙ heard

    answer_refusal : (b : Bool) → SettlesAfter root s past e answer b settled → settled.refusal ≡ answer.refusal
    answer_refusal true settles = ap (λ (x : Turn). x.refusal) settles.is
    answer_refusal false settles = ap (λ (x : Turn). x.refusal) settles

    heard_answer : is_heard answer.refusal ≡ true
    heard_answer = ap is_heard (sym (answer_refusal (is_heard answer.refusal) it.is_settled.settles)) ∙ settled_heard

    by : (b : Bool) → SettlesAfter root s past e answer b settled → b ≡ true → Parts root s past e t
    by false settles is = absurd (false≢true is)
    by true settles is =
        let refusal : settled.refusal ≡ answer.refusal = ap (λ (x : Turn). x.refusal) settles.is in
        let commit : settled.commit ≡ answer.commit = ap (λ (x : Turn). x.commit) settles.is in
        let front : settled.lines ≡ answer.lines ++ each (snapshot_line (after s answer.commit)) settles.told = ap (λ (x : Turn). x.lines) settles.is in
        let same : settled.commit ≡ t.commit = ap (λ (x : Turn). x.commit) (sym it.is) in
        record {
          answer = answer;
          answers = it.is_settled.answers;
          refusal = ap (λ (x : Turn). x.refusal) it.is ∙ refusal;
          commit = sym same ∙ commit;
          told = settles.told;
          settled = whole;
          settled_refusal = ap (λ (x : Turn). x.refusal) (sym it.is);
          settled_commit = same;
          settled_limbo = ap (λ (x : Turn). x.limbo) (sym it.is);
          front = front;
          asked = it.asked;
          asks = subst (λ (c : Option Commit). AsksIf (is_watched (answered_next s past e whole)) (after s c) (answered_next s past e whole) (resets_by e c past) it.asked) same
              (subst (λ (b : Bool). AsksIf (b && is_watched (answered_next s past e whole)) (after s settled.commit) (answered_next s past e whole) (resets_by e settled.commit past) it.asked) settled_heard it.asks);
          behind = batches_behind s past e settled;
          plain_front = subst AreNoRequests (sym front)
              (no_requests_behind answer.lines (each (snapshot_line (after s answer.commit)) settles.told) (answer_plain s past e answer it.is_settled.answers) (told_plain (after s answer.commit) settles.told));
          plain_behind = batches_plain settled.refusal (latest_token (steps_by e settled.refusal (steps_of past))) (to_send (steps_by e settled.refusal (steps_of past)) (after s settled.commit).batches);
          lines = ap (λ (x : Turn). x.lines) it.is;
        }
