-- the pending batches go out in order
use Rattle.std.proofs.Common.{◌≡◌, ℕ, ℤ, ◌+◌, ◌-◌, ◌≤◌, ◌<◌, suc, zero, Bool, true, false, nat_lt, List, [], ◌∷◌, ◌++◌, map as each, length, drop, take, Option, Some, None, ◌&&◌, if◌then◌else◌, refl, sym, ap, subst, ◌∙◌, append-nil, arith, length-append}
use Rattle.std.proofs.lemmas.Bool.{true≢false}
use Rattle.std.proofs.lemmas.List.{append_assoc, drop-append-le, length-drop, length-map, take-append-drop}
use Rattle.std.proofs.lemmas.Option.{none-some}
use Rattle.std.specs.List.{slice_get}
use Rattle.document_keys.specs.Names.{Root}
use Rattle.client_events.specs.declared.event.Event.{Event}
use Rattle.client_events.specs.declared.event.Event.TheVariants as event
use Rattle.durable_state.specs.State.{State, most_commits}
use Rattle.mutations.specs.declared.batch.Batch.{Batch}
use Rattle.mutations.specs.declared.results.WriteRequest.TheVariants.{Batch as a_batch, Handshake as the_first}
use Rattle.mutations.specs.declared.results.WriteResponse.{WriteResponse}
use Rattle.mutations.specs.declared.write.Write.{Write}
use Rattle.queries.specs.declared.target.Target.{Target}
use Rattle.record_codec.specs.declared.commit.Commit.{Commit}
use Rattle.record_codec.specs.declared.commit.Commit.TheVariants.{Acknowledge, Allocate, Drop, Enqueue, Point, Reject, Reset}
use Rattle.target_cache.specs.Cache.{id_at}
use Rattle.value_model.specs.declared.document.RpcStatus.{RpcStatus}
use Rattle.value_model.specs.declared.message.ListenResponse.{ListenResponse}
use Rattle.value_model.specs.declared.message.StreamName.{StreamName}
use Rattle.value_model.specs.declared.message.StreamName.TheVariants as stream
use Rattle.views.specs.Viewed.{Viewed}
use Rattle.write_pipeline.specs.Order.{Steps, acknowledged, closed, is_ready, kept as kept_token, latest_token, outstanding, sent, shaken}
use Rattle.write_pipeline.specs.Standing.{closing_of}
use Rattle.write_pipeline.specs.declared.answer.Closing.{Closing}
use Rattle.write_pipeline.specs.declared.answer.Closing.TheVariants.{Kept as KeepsAll, Rejects}
use Rattle.client_turns.specs.Answers.{Answers, Begins, are_left, ends, listens}
use Rattle.limbo_resolver.specs.Limbo.{Key}
use Rattle.client_turns.specs.Asking.{AsksIf, resets_by}
use Rattle.client_turns.specs.Hearing.{Blanks, HeardTurn, dropped, ended, held, mismatch, none_held, nothing, old_point, point, point_spent, fails as fails_heard}
use Rattle.client_turns.specs.LimboListens.{limbo_of}
use Rattle.client_turns.specs.Lines.{Line, add, document, error, listening, rejected, remove, result, send, snapshot, unlistened, wrote}
use Rattle.client_turns.specs.Order.{AreHeard, WritesGoInOrder, left_since, now, queue_since, sent_since, unless_opened, writes_in}
use Rattle.client_turns.specs.Past.{Past, Turn, listener, sent_in, steps_by, steps_of}
use Rattle.client_turns.specs.Writing.{sent_times, WrittenTurn, acknowledges, bad_turn, closed_turn, closes, fails, first_batch, is_open, is_stream_open, opened_turn, rejects, request_of, requests, shakes, to_send}
use Rattle.client_turns.specs.Turn.{AsksBehind, IsSettled, SettlesAfter, answered_next, batches_behind, is_heard, with_limbo}
use Rattle.client_turns.specs.Turns.{after, commits, refused}
use Rattle.client_turns.specs.Watching.{is_watched}
use Rattle.client_turns.specs.declared.refusal.Refusal.{Refusal}
use Rattle.client_turns.specs.declared.refusal.Refusal.TheVariants.{IdsSpent}
use Rattle.client_turns.proofs.Requested.{adds_unsent, all_adds, removes_unsent}
use Rattle.client_turns.proofs.Requests.{settled_silent}
use Rattle.client_turns.proofs.Sent.{requests_sent, sent_count, sent_open, sent_ready}
use Rattle.client_turns.proofs.Steps.{length_more, sent_behind}

-- ---- lists

zero_plus : (n : ℕ) → 0 + n ≡ n
zero_plus n = omega arith

suc_plus : (m n : ℕ) → suc m + n ≡ suc (m + n)
suc_plus m n = omega arith

take_none : {X : Type 0} (n : ℕ) → take {A = X} n [] ≡ []
take_none zero = refl
take_none (suc n) = refl

drop_none : {X : Type 0} (n : ℕ) → drop {A = X} n [] ≡ []
drop_none zero = refl
drop_none (suc n) = refl

take_more_of : {X : Type 0} (a b : ℕ) (xs : List X) → take (a + b) xs ≡ take a xs ++ take b (drop a xs)
take_more_of zero b xs = ap (λ n. take n xs) (zero_plus b)
take_more_of (suc a) b [] = take_none (suc a + b) ∙ sym (take_none b)
take_more_of (suc a) b (x ∷ xs) = ap (λ n. take n (x ∷ xs)) (suc_plus a b) ∙ ap (λ l. x ∷ l) (take_more_of a b xs)

take_own : {X : Type 0} (n : ℕ) (xs : List X) → take (length (take n xs)) xs ≡ take n xs
take_own zero xs = refl
take_own (suc n) [] = refl
take_own (suc n) (x ∷ xs) = ap (λ l. x ∷ l) (take_own n xs)

take_twice : {X : Type 0} (n m : ℕ) (xs : List X) → n ≤ m → take n (take m xs) ≡ take n xs
take_twice zero m xs less = refl
take_twice (suc n) zero xs less = absurd (omega (arith, less))
take_twice (suc n) (suc m) [] less = refl
take_twice (suc n) (suc m) (x ∷ xs) less = ap (λ l. x ∷ l) (take_twice n m xs (omega (arith, less)))

take_front : {X : Type 0} (n : ℕ) (xs ys : List X) → n ≤ length xs → take n (xs ++ ys) ≡ take n xs
take_front zero xs ys less = refl
take_front (suc n) [] ys less = absurd (omega (arith, less))
take_front (suc n) (x ∷ xs) ys less = ap (λ l. x ∷ l) (take_front n xs ys (omega (arith, less)))

drop_twice : {X : Type 0} (n m : ℕ) (xs : List X) → drop n (drop m xs) ≡ drop (m + n) xs
drop_twice n zero xs = ap (λ k. drop k xs) (sym (zero_plus n))
drop_twice n (suc m) [] = drop_none n ∙ sym (drop_none (suc m + n))
drop_twice n (suc m) (x ∷ xs) = drop_twice n m xs ∙ ap (λ k. drop k (x ∷ xs)) (sym (suc_plus m n))

length_taken : {X : Type 0} (n : ℕ) (xs : List X) → length (take n xs) ≤ length xs
length_taken zero xs = omega arith
length_taken (suc n) [] = omega arith
length_taken (suc n) (x ∷ xs) = let less = length_taken n xs in omega (arith, less)

length_limited : {X : Type 0} (n : ℕ) (xs : List X) → length (take n xs) ≤ n
length_limited zero xs = omega arith
length_limited (suc n) [] = omega arith
length_limited (suc n) (x ∷ xs) = let less = length_limited n xs in omega (arith, less)

some_dropped : {X : Type 0} (n : ℕ) (xs : List X) (x : X) → slice_get (drop n xs) 0 ≡ Some x → n < length xs
some_dropped zero [] x is = absurd (none-some x is)
some_dropped zero (y ∷ xs) x is = omega arith
some_dropped (suc n) [] x is = absurd (none-some x is)
some_dropped (suc n) (y ∷ xs) x is = let less = some_dropped n xs x is in omega (arith, less)

map_append : {X Y : Type 0} (f : X → Y) (xs ys : List X) → each f (xs ++ ys) ≡ each f xs ++ each f ys
map_append f [] ys = refl
map_append f (x ∷ xs) ys = ap (λ l. f x ∷ l) (map_append f xs ys)

abbrev writes_of : Batch → List Write
writes_of batch = batch.writes

-- ---- before the requests of an event, and behind them

-- Of what was sent, of what was pending and joined, how many left, and of the steps on the stream.
pub record Ordered (out : List (List Write)) (queue : List Batch) (left : ℕ) (h : Steps) (batches : List Batch) : Type 0 where
  pub sent : out ≡ each writes_of (take (length out) queue)
  pub pending : batches ≡ drop left queue
  pub within : left ≤ length queue
  pub counts : is_open h ≡ true → left + outstanding h ≡ length out
  pub few : outstanding h ≤ 10
  pub opening : is_ready h ≡ true → is_open h ≡ true

not_more : {out : List (List Write)} {queue : List Batch} {left : ℕ} {h : Steps} {batches : List Batch} → Ordered out queue left h batches → length out ≤ length queue
not_more {out} {queue} it =
    let same : length out ≡ length (take (length out) queue) = ap (λ (l : List (List Write)). length l) it.sent ∙ length-map (take (length out) queue) writes_of in
    let low = length_taken (length out) queue in
    omega (arith, same, low)

-- the requests go out
behind : (out : List (List Write)) (queue : List Batch) (left : ℕ) (h : Steps) (batches : List Batch) → Ordered out queue left h batches → Ordered (out ++ each writes_of (to_send h batches)) queue left (sent_times (length (to_send h batches)) h) batches
behind out queue left h batches it = by (is_ready h) refl
  where
    ready_still : (n : ℕ) → is_ready (sent_times n h) ≡ true → is_open (sent_times n h) ≡ true
    ready_still n ready = sent_open n h ∙ it.opening (sym (sent_ready n h) ∙ ready)

    after_it : (xs : List Batch) → Ordered (out ++ each writes_of xs) queue left (sent_times (length xs) h) batches → to_send h batches ≡ xs → Ordered (out ++ each writes_of (to_send h batches)) queue left (sent_times (length (to_send h batches)) h) batches
    after_it xs done same = subst (λ (l : List Batch). Ordered (out ++ each writes_of l) queue left (sent_times (length l) h) batches) (sym same) done

    by : (b : Bool) → is_ready h ≡ b → Ordered (out ++ each writes_of (to_send h batches)) queue left (sent_times (length (to_send h batches)) h) batches
    by false not = after_it [] (subst (λ (l : List (List Write)). Ordered l queue left h batches) (sym (append-nil out)) it) (ap (λ b. if b then drop (outstanding h) (take 10 batches) else []) not)
    by true ready = after_it xs done (ap (λ b. if b then drop (outstanding h) (take 10 batches) else []) ready)
      where
        n : ℕ
        n = outstanding h

        xs : List Batch
        xs = drop n (take 10 batches)

        opening : is_open h ≡ true
        opening = it.opening ready

        count : left + n ≡ length out
        count = it.counts opening

        -- what was sent is as many as have left, the outstanding ones, and those that go out
        whole : take (length out) queue ++ xs ≡ take (left + 10) queue
        whole =
            ap (λ m. take m queue ++ xs) (sym count) ∙ ap (λ (l : List Batch). l ++ xs) (take_more_of left n queue) ∙ append_assoc (take left queue) (take n (drop left queue)) xs
            ∙ ap (λ (l : List Batch). take left queue ++ (take n l ++ drop n (take 10 batches))) (sym it.pending)
            ∙ ap (λ (l : List Batch). take left queue ++ (l ++ drop n (take 10 batches))) (sym (take_twice n 10 batches it.few))
            ∙ ap (λ (l : List Batch). take left queue ++ l) (take-append-drop n (take 10 batches))
            ∙ ap (λ (l : List Batch). take left queue ++ take 10 l) it.pending
            ∙ sym (take_more_of left 10 queue)

        all : out ++ each writes_of xs ≡ each writes_of (take (left + 10) queue)
        all = ap (λ (l : List (List Write)). l ++ each writes_of xs) it.sent ∙ sym (map_append writes_of (take (length out) queue) xs) ∙ ap (each writes_of) whole

        size : length (out ++ each writes_of xs) ≡ length (take (left + 10) queue)
        size = ap (λ (l : List (List Write)). length l) all ∙ length-map (take (left + 10) queue) writes_of

        more : length (out ++ each writes_of xs) ≡ length out + length xs
        more = length-append out (each writes_of xs) ∙ ap (λ m. length out + m) (length-map xs writes_of)

        few_more : length xs ≤ 10 - n
        few_more =
            let cut = length-drop n (take 10 batches) in
            let low = length_limited 10 batches in
            omega (arith, cut, low)

        done : Ordered (out ++ each writes_of xs) queue left (sent_times (length xs) h) batches
        done = record {
          sent = all ∙ ap (each writes_of) (sym (take_own (left + 10) queue) ∙ ap (λ m. take m queue) (sym size));
          pending = it.pending;
          within = it.within;
          counts = λ still. let c = sent_count (length xs) h in let m = more in omega (arith, c, m, count);
          few = let c = sent_count (length xs) h in let f = few_more in let few = it.few in omega (arith, c, f, few);
          opening = ready_still (length xs);
        }

-- ---- an event's answer

-- it opens no stream, and makes no commit of a batch
same_again : {out : List (List Write)} {queue : List Batch} {left : ℕ} {h : Steps} {batches : List Batch} → Ordered out queue left h batches → Ordered out (queue ++ []) (left + 0) h batches
same_again {out} {queue} {left} {h} {batches} it =
    subst (λ (q : List Batch). Ordered out q (left + 0) h batches) (sym (append-nil queue))
    (subst (λ m. Ordered out queue m h batches) zero_more it)
  where
    zero_more : left ≡ left + 0
    zero_more = omega arith

-- the stream is closed
closed_now : {out : List (List Write)} {queue : List Batch} {left : ℕ} {h : Steps} {batches : List Batch} → Ordered out queue left h batches → Ordered out queue left (closed ∷ h) batches
closed_now it = record { sent = it.sent; pending = it.pending; within = it.within; counts = λ opening. absurd (true≢false (sym opening)); few = omega arith; opening = λ ready. absurd (true≢false (sym ready)) }

-- a batch joins
joins : {out : List (List Write)} {queue : List Batch} {left : ℕ} {h : Steps} {batches : List Batch} (batch : Batch) → Ordered out queue left h batches → Ordered out (queue ++ batch ∷ []) (left + 0) h (batches ++ batch ∷ [])
joins {out} {queue} {left} {h} {batches} batch it = record {
  sent = it.sent ∙ ap (each writes_of) (sym (take_front (length out) queue (batch ∷ []) (not_more it)));
  pending = ap (λ (l : List Batch). l ++ batch ∷ []) it.pending ∙ sym (drop-append-le left queue (batch ∷ []) it.within) ∙ ap (λ m. drop m (queue ++ batch ∷ [])) zero_more;
  within = let long = length_more queue batch in let low = it.within in omega (arith, long, low);
  counts = λ opening. let all = it.counts opening in omega (arith, all);
  few = it.few;
  opening = it.opening;
}
  where
    zero_more : left ≡ left + 0
    zero_more = omega arith

-- the first batch leaves
leaves : {out : List (List Write)} {queue : List Batch} {left : ℕ} {h g : Steps} {batches : List Batch} (first : Batch) → slice_get batches 0 ≡ Some first → Ordered out queue left h batches → (is_open g ≡ true → left + 1 + outstanding g ≡ length out) → outstanding g ≤ 10 → (is_ready g ≡ true → is_open g ≡ true)
    → Ordered out (queue ++ []) (left + 1) g (drop 1 batches)
leaves {out} {queue} {left} {h} {g} {batches} first there it counts few opening = subst (λ (q : List Batch). Ordered out q (left + 1) g (drop 1 batches)) (sym (append-nil queue)) (record {
  sent = it.sent;
  pending = ap (drop 1) it.pending ∙ drop_twice 1 left queue;
  within = let less = some_dropped left queue first (subst (λ (l : List Batch). slice_get l 0 ≡ Some first) it.pending there) in omega (arith, less);
  counts = counts;
  few = few;
  opening = opening;
})

-- ---- events, one by one

module _ (first : State) (past : Past) (s : State) (state : s ≡ now first past) (it : Ordered (sent_since past) (queue_since first past) (left_since past) (steps_of past) s.batches) where
  abbrev h : Steps
  h = steps_of past

  -- an event with this refusal and this commit
  abbrev heard_of : Event → Option Refusal → Option Commit → Past
  heard_of e refusal commit = record { state = s; event = e; turn = record { refusal = refusal; commit = commit; lines = []; limbo = [] } } ∷ past

  -- what stands behind it, but for its requests
  abbrev StandsBy : Event → Option Refusal → Option Commit → Type 0
  StandsBy e refusal commit = is_heard refusal ≡ true → Ordered (unless_opened e (sent_since past)) (queue_since first (heard_of e refusal commit)) (left_since (heard_of e refusal commit)) (steps_by e refusal h) (after s commit).batches

  abbrev Stands : Event → Turn → Type 0
  Stands e t = StandsBy e t.refusal t.commit

  stands_if : (e : Event) (b : Bool) (some none : Turn) → Stands e some → Stands e none → Stands e (if b then some else none)
  stands_if e true some none one two = one
  stands_if e false some none one two = two

  unheard : {P : Type 0} → false ≡ true → P
  unheard is = absurd (true≢false (sym is))

  stands_begins : (id : ℕ) (query : Target) (view : Option Viewed) (t : Turn) → Begins s id query view t → Stands (event.Listen id query) t
  stands_begins id query (Some view) t is = subst (Stands (event.Listen id query)) (sym is) (λ heard. unheard heard)
  stands_begins id query None t is = subst (Stands (event.Listen id query)) (sym is.2) (by is.0)
    where
      by : (found : Option _) → Stands (event.Listen id query) (listens s id query found)
      by (Some target) = λ heard. same_again it
      by None = stands_if (event.Listen id query) (are_left s) (commits (Allocate (id_at (length s.rows)) query) (listening id _ (s.number + 1) ∷ [])) (refused IdsSpent) (λ heard. same_again it) (λ heard. unheard heard)

  stands_ends : (id : ℕ) (view : Option Viewed) → Stands (event.Unlisten id) (ends s id view)
  stands_ends id None = λ heard. unheard heard
  stands_ends id (Some view) = λ heard. same_again it

  stands_opened : (name : StreamName) (opening : Bool) → Stands (event.Opened name) (opened_turn name opening)
  stands_opened name true = λ heard. unheard heard
  stands_opened stream.Watch false = λ heard. same_again it
  stands_opened stream.Write false = λ heard. record {
    sent = refl;
    pending = sym (append-nil s.batches);
    within = omega arith;
    counts = λ opening. omega arith;
    few = omega arith;
    opening = λ ready. refl;
  }

  stands_rejects : (status : RpcStatus) (found : Option Batch) → first_batch s ≡ found → Stands (event.Closed stream.Write status) (rejects s found status)
  stands_rejects status None is = λ heard. same_again (closed_now it)
  stands_rejects status (Some batch) is = stands_if (event.Closed stream.Write status) (nat_lt s.number most_commits) (commits (Reject batch.id) (rejected batch.id (s.number + 1) status ∷ [])) (refused IdsSpent)
      (λ heard. leaves batch is it (λ opening. absurd (true≢false (sym opening))) (omega arith) (λ ready. absurd (true≢false (sym ready))))
      (λ heard. unheard heard)

  stands_closes : (status : RpcStatus) (closing : Closing) → Stands (event.Closed stream.Write status) (closes s status closing)
  stands_closes status KeepsAll = λ heard. same_again (closed_now it)
  stands_closes status Rejects = stands_rejects status (first_batch s) refl

  stands_closed : (name : StreamName) (status : RpcStatus) (opening : Bool) → Stands (event.Closed name status) (closed_turn s h name status opening)
  stands_closed name status false = λ heard. unheard heard
  stands_closed stream.Watch status true = λ heard. same_again it
  stands_closed stream.Write status true = stands_closes status (closing_of h status.code)

  stands_bad : (name : StreamName) (member : List ℕ) (opening : Bool) → Stands (event.BadMessage name member) (bad_turn name member opening)
  stands_bad name member false = λ heard. unheard heard
  stands_bad stream.Watch member true = λ heard. same_again it
  stands_bad stream.Write member true = λ heard. same_again (closed_now it)

  -- what comes on the stream of listeners leaves the batches alone
  stands_blanks : (response : ListenResponse) (ids : List ℕ) (lines : List Line) (t : Turn) → Blanks s ids lines t → Stands (event.Watch response) t
  stands_blanks response ids lines t (held any is) = subst (Stands (event.Watch response)) (sym is)
      (stands_if (event.Watch response) (nat_lt s.number most_commits) (commits (Reset ids) lines) (refused IdsSpent) (λ heard. same_again it) (λ heard. unheard heard))
  stands_blanks response ids lines t (none_held none is) = subst (Stands (event.Watch response)) (sym is) (λ heard. same_again it)

  stands_heard : (response : ListenResponse) (opening : Bool) (t : Turn) → HeardTurn s past response opening t → Stands (event.Watch response) t
  stands_heard response false t is = subst (Stands (event.Watch response)) (sym is) (λ heard. unheard heard)
  stands_heard response true t (nothing gives is) = subst (Stands (event.Watch response)) (sym is) (λ heard. same_again it)
  stands_heard response true t (old_point at gives old is) = subst (Stands (event.Watch response)) (sym is) (λ heard. same_again it)
  stands_heard response true t (point at entries rows gives below commits_it is) = subst (Stands (event.Watch response)) (sym is)
      (stands_if (event.Watch response) (nat_lt s.number most_commits) (commits (Point at entries rows) []) (refused IdsSpent) (λ heard. same_again it) (λ heard. unheard heard))
  stands_heard response true t (point_spent at gives below many is) = subst (Stands (event.Watch response)) (sym is) (λ heard. unheard heard)
  stands_heard response true t (mismatch id told count ids gives have blanks) = stands_blanks response ids [] t blanks
  stands_heard response true t (ended ids status those listeners gives none have are blanks) = stands_blanks response those (each (λ l. error l status) listeners) t blanks
  stands_heard response true t (dropped ids status keys those listeners gives drops some blanked are is) = subst (Stands (event.Watch response)) (sym is)
      (stands_if (event.Watch response) (nat_lt s.number most_commits) (commits (Drop keys those) (each (λ l. error l status) listeners)) (refused IdsSpent) (λ heard. same_again it) (λ heard. unheard heard))
  stands_heard response true t (fails_heard why refuses is) = subst (Stands (event.Watch response)) (sym is) (λ heard. same_again it)

  shaken_now : (response : WriteResponse) → is_open h ≡ true → Ordered (sent_since past) (queue_since first past) (left_since past) (kept_token response.token ∷ shaken ∷ h) s.batches
  shaken_now response opening = record { sent = it.sent; pending = it.pending; within = it.within; counts = it.counts; few = it.few; opening = λ ready. opening }

  stands_written : (response : WriteResponse) (opening : Bool) → is_open h ≡ opening → (t : Turn) → WrittenTurn s h response opening t → Stands (event.Written response) t
  stands_written response true opening t (shakes fits is) = subst (Stands (event.Written response)) (sym is)
      (λ heard. subst (λ (b : Bool). Ordered (sent_since past) (queue_since first past ++ []) (left_since past + 0) (kept_token response.token ∷ (if b then acknowledged else shaken) ∷ h) s.batches) (sym fits.0) (same_again (shaken_now response opening)))
  stands_written response true opening t (acknowledges batch time there at fits is) = subst (Stands (event.Written response)) (sym is)
      (stands_if (event.Written response) (nat_lt s.number most_commits) (commits (Acknowledge batch.id time response.results) (result batch.id (s.number + 1) time ∷ [])) (refused IdsSpent)
      (λ heard. subst (λ (b : Bool). Ordered (sent_since past) (queue_since first past ++ []) (left_since past + 1) (kept_token response.token ∷ (if b then acknowledged else shaken) ∷ h) (drop 1 s.batches)) (sym fits.0)
      (leaves batch there it (λ still. let all = it.counts opening in let some = fits.1 in omega (arith, all, some)) (let few = it.few in omega (arith, few)) (λ ready. opening)))
      (λ heard. unheard heard))
  stands_written response true opening t (fails member not is) = subst (Stands (event.Written response)) (sym is) (λ heard. same_again (closed_now it))
  stands_written response false opening t is = subst (Stands (event.Written response)) (sym is) (λ heard. unheard heard)

  stands_answered : (e : Event) (t : Turn) → Answers s past e t → Stands e t
  stands_answered (event.Write at writes) t is = subst (Stands (event.Write at writes)) (sym is)
      (stands_if (event.Write at writes) (nat_lt s.number most_commits) (commits (Enqueue (record { id = s.next_batch; at = at; writes = writes })) (wrote s.next_batch (s.number + 1) ∷ [])) (refused IdsSpent)
      (λ heard. joins (record { id = s.next_batch; at = at; writes = writes }) it) (λ heard. unheard heard))
  stands_answered (event.Get key) t is = subst (Stands (event.Get key)) (sym is) (λ heard. same_again it)
  stands_answered (event.Listen id query) t is = stands_begins id query (listener id past) t is
  stands_answered (event.Unlisten id) t is = subst (Stands (event.Unlisten id)) (sym is) (stands_ends id (listener id past))
  stands_answered (event.Opened name) t is = subst (Stands (event.Opened name)) (sym is) (stands_opened name (is_stream_open name past))
  stands_answered (event.Closed name status) t is = subst (Stands (event.Closed name status)) (sym is) (stands_closed name status (is_stream_open name past))
  stands_answered (event.Written response) t is = stands_written response (is_open h) refl t is
  stands_answered (event.BadMessage name member) t is = subst (Stands (event.BadMessage name member)) (sym is) (stands_bad name member (is_stream_open name past))
  stands_answered (event.Watch response) t is = stands_heard response (is_watched past) t is
  stands_answered event.Timer t is = subst (Stands event.Timer) (sym is) (λ heard. same_again it)

-- ---- all that was heard

writes_behind : (xs ys : List Line) → writes_in (xs ++ ys) ≡ writes_in xs ++ writes_in ys
writes_behind [] ys = refl
writes_behind (wrote b c ∷ xs) ys = writes_behind xs ys
writes_behind (listening i t c ∷ xs) ys = writes_behind xs ys
writes_behind (unlistened i c ∷ xs) ys = writes_behind xs ys
writes_behind (document k d w ∷ xs) ys = writes_behind xs ys
writes_behind (result b c t ∷ xs) ys = writes_behind xs ys
writes_behind (rejected b c t ∷ xs) ys = writes_behind xs ys
writes_behind (snapshot c r t ∷ xs) ys = writes_behind xs ys
writes_behind (error i t ∷ xs) ys = writes_behind xs ys
writes_behind (add t r ∷ xs) ys = writes_behind xs ys
writes_behind (remove t ∷ xs) ys = writes_behind xs ys
writes_behind (send the_first ∷ xs) ys = writes_behind xs ys
writes_behind (send (a_batch token writes) ∷ xs) ys = ap (λ l. writes ∷ l) (writes_behind xs ys)

-- as many are outstanding then as these lines sent
counts_sent : (xs : List Line) (h : Steps) → outstanding (sent_in xs h) ≡ outstanding h + length (writes_in xs)
counts_sent [] h = omega arith
counts_sent (wrote b c ∷ xs) h = counts_sent xs h
counts_sent (listening i t c ∷ xs) h = counts_sent xs h
counts_sent (unlistened i c ∷ xs) h = counts_sent xs h
counts_sent (document k d w ∷ xs) h = counts_sent xs h
counts_sent (result b c t ∷ xs) h = counts_sent xs h
counts_sent (rejected b c t ∷ xs) h = counts_sent xs h
counts_sent (snapshot c r t ∷ xs) h = counts_sent xs h
counts_sent (error i t ∷ xs) h = counts_sent xs h
counts_sent (add t r ∷ xs) h = counts_sent xs h
counts_sent (remove t ∷ xs) h = counts_sent xs h
counts_sent (send the_first ∷ xs) h = counts_sent xs h
counts_sent (send (a_batch token writes) ∷ xs) h = let rest = counts_sent xs (sent ∷ h) in omega (arith, rest)

nothing_written : (xs : List Line) → ((h : Steps) → sent_in xs h ≡ h) → writes_in xs ≡ []
nothing_written xs silent =
    let count = counts_sent xs [] in
    let same : outstanding (sent_in xs []) ≡ 0 = ap outstanding (silent []) in
    none (writes_in xs) (omega (arith, count, same))
  where
    none : (l : List (List Write)) → length l ≡ 0 → l ≡ []
    none [] is = refl
    none (x ∷ l) is = absurd (omega (arith, is))

requests_written : (token : List ℕ) (bs : List Batch) → writes_in (each (request_of token) bs) ≡ each writes_of bs
requests_written token [] = refl
requests_written token (b ∷ bs) = ap (λ l. b.writes ∷ l) (requests_written token bs)

-- requests on the stream of listeners send no batch
asked_silent : (goes : Bool) (s : State) (next : Past) (reset : ℤ → Bool) (lines : List Line) → AsksIf goes s next reset lines → (g : Steps) → sent_in lines g ≡ g
asked_silent true s next reset lines asks g =
    let all = all_adds s (limbo_of next) asks.added asks.listens asks.adds asks.listen_adds asks.rows asks.keys in
    ap (λ (l : List Line). sent_in l g) (asks.is ∙ append_assoc (each remove asks.removed) asks.adds asks.listen_adds) ∙ sent_behind (each remove asks.removed) (asks.adds ++ asks.listen_adds) g
    ∙ ap (sent_in (asks.adds ++ asks.listen_adds)) (removes_unsent asks.removed g) ∙ adds_unsent (asks.added ++ asks.listens) (asks.adds ++ asks.listen_adds) g all
asked_silent false s next reset lines none g = ap (λ (l : List Line). sent_in l g) none

settled_same : (root : Root) (s : State) (past : Past) (e : Event) (answer : Turn) (heard : Bool) (t : Turn) → SettlesAfter root s past e answer heard t → (t.refusal ≡ answer.refusal) × (t.commit ≡ answer.commit)
settled_same root s past e answer true t is = (ap (λ (x : Turn). x.refusal) is.is, ap (λ (x : Turn). x.commit) is.is)
settled_same root s past e answer false t is = (ap (λ (x : Turn). x.refusal) is, ap (λ (x : Turn). x.commit) is)

module _ (root : Root) (first : State) (past : Past) (s : State) (e : Event) (settled : Turn) (state : s ≡ now first past)
    (it : Ordered (sent_since past) (queue_since first past) (left_since past) (steps_of past) s.batches) (is_settled : IsSettled root s past e settled)
    (limbo : List Key) (asked : List Line) (asks : AsksBehind s past e (with_limbo settled limbo) asked) where
  -- the lines before the batches
  abbrev lead : List Line
  lead = settled.lines ++ asked

  silent : (g : Steps) → sent_in lead g ≡ g
  silent g =
      sent_behind settled.lines asked g ∙ ap (sent_in asked) (settled_silent root s past e settled is_settled g)
      ∙ asked_silent (is_heard settled.refusal && is_watched (answered_next s past e (with_limbo settled limbo))) (after s settled.commit) (answered_next s past e (with_limbo settled limbo)) (resets_by e settled.commit past) asked asks g

  stands : StandsBy first past s state it e settled.refusal settled.commit
  stands =
      let answer = is_settled.answer in
      let same = settled_same root s past e answer (is_heard answer.refusal) settled is_settled.settles in
      subst (λ (r : Option Refusal). StandsBy first past s state it e r settled.commit) (sym same.0)
      (subst (λ (c : Option Commit). StandsBy first past s state it e answer.refusal c) (sym same.1)
      (stands_answered first past s state it e answer is_settled.answers))

  -- the event with its lines
  abbrev entry_with : Option Refusal → List Line → Past
  entry_with refusal more = record { state = s; event = e; turn = record { refusal = refusal; commit = settled.commit; lines = lead ++ more; limbo = limbo } } ∷ past

  by_refusal : (refusal : Option Refusal) → settled.refusal ≡ refusal → is_heard refusal ≡ true
      → let more = Rattle.client_turns.specs.Turn.unless_refused refusal (requests (steps_by e refusal (steps_of past)) (after s settled.commit).batches) in
      Ordered (sent_since (entry_with refusal more)) (queue_since first (entry_with refusal more)) (left_since (entry_with refusal more)) (steps_of (entry_with refusal more)) (after s settled.commit).batches
  by_refusal None is heard =
      let g : Steps = steps_by e None (steps_of past) in
      let bs : List Batch = (after s settled.commit).batches in
      let more : List Line = requests g bs in
      let before = subst (λ (r : Option Refusal). StandsBy first past s state it e r settled.commit) is stands heard in
      let written : writes_in (lead ++ more) ≡ each writes_of (to_send g bs) =
      writes_behind lead more ∙ ap (λ l. l ++ writes_in more) (nothing_written lead silent) ∙ requests_written (latest_token g) (to_send g bs) in
      let steps : sent_in (lead ++ more) g ≡ sent_times (length (to_send g bs)) g =
      sent_behind lead more g ∙ ap (sent_in more) (silent g) ∙ requests_sent (latest_token g) (to_send g bs) g in
      subst (λ l. Ordered (unless_opened e (sent_since past) ++ l) (queue_since first (entry_with None more)) (left_since (entry_with None more)) (sent_in (lead ++ more) g) bs) (sym written)
      (subst (λ (x : Steps). Ordered (unless_opened e (sent_since past) ++ each writes_of (to_send g bs)) (queue_since first (entry_with None more)) (left_since (entry_with None more)) x bs) (sym steps)
      (behind (unless_opened e (sent_since past)) (queue_since first (entry_with None more)) (left_since (entry_with None more)) g bs before))
  by_refusal (Some refusal) is heard =
      let g : Steps = steps_by e (Some refusal) (steps_of past) in
      let bs : List Batch = (after s settled.commit).batches in
      let before = subst (λ (r : Option Refusal). StandsBy first past s state it e r settled.commit) is stands heard in
      let same : lead ++ [] ≡ lead = append-nil lead in
      let written : writes_in (lead ++ []) ≡ [] = ap writes_in same ∙ nothing_written lead silent in
      let steps : sent_in (lead ++ []) g ≡ g = ap (λ (l : List Line). sent_in l g) same ∙ silent g in
      subst (λ l. Ordered (unless_opened e (sent_since past) ++ l) (queue_since first (entry_with (Some refusal) [])) (left_since (entry_with (Some refusal) [])) (sent_in (lead ++ []) g) bs) (sym written)
      (subst (λ (x : Steps). Ordered (unless_opened e (sent_since past) ++ []) (queue_since first (entry_with (Some refusal) [])) (left_since (entry_with (Some refusal) [])) x bs) (sym steps)
      (subst (λ l. Ordered l (queue_since first (entry_with (Some refusal) [])) (left_since (entry_with (Some refusal) [])) g bs) (sym (append-nil (unless_opened e (sent_since past)))) before))

ordered_all : (root : Root) (first : State) (past : Past) → AreHeard root first past → Ordered (sent_since past) (queue_since first past) (left_since past) (steps_of past) (now first past).batches
ordered_all root first [] heard = record { sent = refl; pending = refl; within = omega arith; counts = λ opening. absurd (true≢false (sym opening)); few = omega arith; opening = λ ready. absurd (true≢false (sym ready)) }
ordered_all root first (entry ∷ past) heard =
    let next = heard.1 in
    let it = subst (λ (x : State). Ordered (sent_since past) (queue_since first past) (left_since past) (steps_of past) x.batches) (sym next.state) (ordered_all root first past heard.0) in
    let turn = next.turn in
    let settled = turn.settled in
    let sends = batches_behind entry.state past entry.event settled in
    let all : settled.lines ++ (turn.asked ++ sends) ≡ (settled.lines ++ turn.asked) ++ sends = sym (append_assoc settled.lines turn.asked sends) in
    let is : entry.turn ≡ record { refusal = settled.refusal; commit = settled.commit; lines = (settled.lines ++ turn.asked) ++ sends; limbo = turn.limbo } =
    turn.is ∙ (λ i. record { refusal = settled.refusal; commit = settled.commit; lines = all i; limbo = turn.limbo }) in
    subst (λ (t : Turn). Ordered (sent_since (record { state = entry.state; event = entry.event; turn = t } ∷ past)) (queue_since first (record { state = entry.state; event = entry.event; turn = t } ∷ past)) (left_since (record { state = entry.state; event = entry.event; turn = t } ∷ past))
    (steps_of (record { state = entry.state; event = entry.event; turn = t } ∷ past)) (after entry.state t.commit).batches) (sym is)
    (by_refusal root first past entry.state entry.event settled next.state it turn.is_settled turn.limbo turn.asked turn.asks settled.refusal refl (ap (λ (t : Turn). is_heard t.refusal) (sym is) ∙ next.heard))

pub writes_go_in_order : WritesGoInOrder
writes_go_in_order root first past heard =
    let it = ordered_all root first past heard in
    record { sent = it.sent; pending = it.pending; counts = it.counts; few = it.few }
