-- batches that go out
use Rattle.std.proofs.Common.{◌≡◌, ◌⊎◌, ⊎_elim, inl, inr, ℕ, ◌+◌, ◌-◌, ◌≤◌, ◌<◌, suc, zero, Bool, true, false, ◌&&◌, nat_lt, List, [], ◌∷◌, ◌++◌, map as each, length, drop, take, Option, Some, None, if◌then◌else◌, refl, sym, ap, subst, ◌∙◌, append-nil, arith}
use Rattle.std.proofs.lemmas.Bool.{lt-ltb, ltb-true, ltb-false}
use Rattle.std.proofs.lemmas.List.{append_assoc, length-drop, length-take-le, take_all}
use Rattle.std.proofs.lemmas.Option.{none-some}
use Rattle.std.specs.List.{AllZip, slice_get}
use Rattle.mutations.specs.declared.batch.Batch.{Batch}
use Rattle.write_pipeline.specs.Order.{Steps, is_ready, latest_token, may_send, next_place, outstanding}
use Rattle.write_pipeline.proofs.Some.{stands_for_some}
use Rattle.write_pipeline.specs.Standing.{MaySend, StandsFor as PipelineStandsFor, step_of}
use Rattle.write_pipeline.specs.declared.pipeline.WritePipeline.{WritePipeline}
use Rattle.write_pipeline.specs.declared.answer.Answer.{Answer}
use Rattle.write_pipeline.specs.declared.answer.Answer.TheVariants.{Handshake, Acknowledges}
use Rattle.local_store.specs.Store.{Store}
use Rattle.sync_engine.specs.Sending.{KeepsButPipeline, Sends, from_place, then_sent}
use Rattle.client_turns.specs.Writing.{sent_times, is_open, request_of, to_send}
use Rattle.sync_engine.specs.Standing.{ComesAs, Kept}
use Rattle.sync_engine.specs.declared.write_stream.WriteStream.{WriteStream}
use Rattle.sync_engine.specs.Telling.{IsShown}
use Rattle.sync_engine.specs.declared.out.Out.{Out}
use Rattle.sync_engine.specs.declared.out.Out.TheVariants.{SendBatch}
use Rattle.client_turns.proofs.Sent.{sent_ready, sent_token, sent_count}

-- what holds of whatever a stream stands for holds of something
pub comes_some : {P : Steps → Type 0} (writes : WriteStream) → ComesAs writes P → (h : Steps) × P h
comes_some writes comes = let it = stands_for_some writes.pipeline in (it.0, comes it.0 it.1)

-- ---- what stays where batches are sent

-- a message that fits leaves it open
pub answered_open : (answer : Answer) (h : Steps) → is_open h ≡ is_open (step_of answer ∷ h)
answered_open Handshake h = refl
answered_open Acknowledges h = refl

-- ---- how many are sent

-- the batches that may be outstanding are 10, or all
take_ten : (bs : List Batch) → (10 ≤ length bs) × (length (take 10 bs) ≡ 10) ⊎ (length bs ≤ 10) × (length (take 10 bs) ≡ length bs)
take_ten bs = by (nat_lt (length bs) 10) refl
  where
    by : (b : Bool) → nat_lt (length bs) 10 ≡ b → (10 ≤ length bs) × (length (take 10 bs) ≡ 10) ⊎ (length bs ≤ 10) × (length (take 10 bs) ≡ length bs)
    by true less = let few = ltb-true (length bs) 10 less in let low : length bs ≤ 10 = omega (arith, few) in inr (low, ap (λ (l : List Batch). length l) (take_all 10 bs low))
    by false more = let many = ltb-false (length bs) 10 more in inl (many, length-take-le 10 bs many)

counted : (h : Steps) (bs : List Batch) → is_ready h ≡ true → length (to_send h bs) ≡ length (take 10 bs) - outstanding h
counted h bs ready = ap (λ b. length (if b then drop (outstanding h) (take 10 bs) else [])) ready ∙ length-drop (outstanding h) (take 10 bs)

uncounted : (h : Steps) (bs : List Batch) → is_ready h ≡ false → length (to_send h bs) ≡ 0
uncounted h bs not = ap (λ b. length (if b then drop (outstanding h) (take 10 bs) else [])) not

record Next (h : Steps) (pending place : ℕ) : Type 0 where
  ready : is_ready h ≡ true
  few : outstanding h < 10
  more : outstanding h < pending
  is : place ≡ outstanding h

next_is : (h : Steps) (pending place : ℕ) → next_place h pending ≡ Some place → Next h pending place
next_is h pending place is = go (is_ready h) refl (nat_lt (outstanding h) 10) refl (nat_lt (outstanding h) pending) refl is
  where
    go : (a : Bool) → is_ready h ≡ a → (b : Bool) → nat_lt (outstanding h) 10 ≡ b → (c : Bool) → nat_lt (outstanding h) pending ≡ c → (if (a && b) && c then Some (outstanding h) else None) ≡ Some place → Next h pending place
    go true ready true few true more same = record { ready = ready; few = ltb-true (outstanding h) 10 few; more = ltb-true (outstanding h) pending more; is = cc }
    go true ready true few false more same = absurd (none-some place same)
    go true ready false few c more same = absurd (none-some place same)
    go false ready b few c more same = absurd (none-some place same)

record Over (h : Steps) (pending : ℕ) : Type 0 where
  over : (is_ready h ≡ false) ⊎ ((10 ≤ outstanding h) ⊎ (pending ≤ outstanding h))

next_not : (h : Steps) (pending : ℕ) → next_place h pending ≡ None → Over h pending
next_not h pending is = go (is_ready h) refl (nat_lt (outstanding h) 10) refl (nat_lt (outstanding h) pending) refl is
  where
    go : (a : Bool) → is_ready h ≡ a → (b : Bool) → nat_lt (outstanding h) 10 ≡ b → (c : Bool) → nat_lt (outstanding h) pending ≡ c → (if (a && b) && c then Some (outstanding h) else None) ≡ None → Over h pending
    go true ready true few true more same = absurd (none-some (outstanding h) (sym same))
    go true ready true few false more same = record { over = inr (inr (ltb-false (outstanding h) pending more)) }
    go true ready false few c more same = record { over = inr (inl (ltb-false (outstanding h) 10 few)) }
    go false ready b few c more same = record { over = inl ready }

pub may_from : (h : Steps) (pending place : ℕ) → next_place h pending ≡ Some place → may_send h ≡ true
may_from h pending place is = let next = next_is h pending place is in ap (λ b. b && nat_lt (outstanding h) 10) next.ready ∙ lt-ltb (outstanding h) 10 next.few

pub may_send_by : {p : WritePipeline} {result : Option ℕ} (pending place : ℕ) → ((h : Steps) → PipelineStandsFor p h → result ≡ next_place h pending) → result ≡ Some place → MaySend p
may_send_by {p} {result} pending place next some =
    let it = stands_for_some p in
    record { steps = it.0; stands = it.1; may = may_from it.0 pending place (sym (next it.0 it.1) ∙ some) }

-- one more is sent
more_to_send : (h : Steps) (bs : List Batch) (i place : ℕ) → next_place (sent_times i h) (length bs) ≡ Some place → i + 1 ≤ length (to_send h bs)
more_to_send h bs i place is =
    let next = next_is (sent_times i h) (length bs) place is in
    let count = sent_count i h in
    let all = counted h bs (sym (sent_ready i h) ∙ next.ready) in
    let few = next.few in
    let more = next.more in
    ⊎_elim (λ ten. let t = ten.1 in omega (arith, t, count, all, few, more)) (λ whole. let t = whole.1 in omega (arith, t, count, all, few, more)) (take_ten bs)

place_is : (h : Steps) (bs : List Batch) (i place : ℕ) → next_place (sent_times i h) (length bs) ≡ Some place → place ≡ outstanding h + i
place_is h bs i place is = (next_is (sent_times i h) (length bs) place is).is ∙ sent_count i h

all_sent : (h : Steps) (bs : List Batch) (i : ℕ) → next_place (sent_times i h) (length bs) ≡ None → i ≤ length (to_send h bs) → i ≡ length (to_send h bs)
all_sent h bs i is some =
    ⊎_elim
    (λ not. let none = uncounted h bs (sym (sent_ready i h) ∙ not) in omega (arith, none, some))
    (λ full. by (is_ready h) refl full)
    (next_not (sent_times i h) (length bs) is).over
  where
    count : outstanding (sent_times i h) ≡ outstanding h + i
    count = sent_count i h

    by : (b : Bool) → is_ready h ≡ b → (10 ≤ outstanding (sent_times i h)) ⊎ (length bs ≤ outstanding (sent_times i h)) → i ≡ length (to_send h bs)
    by false not full = let none = uncounted h bs not in omega (arith, none, some)
    by true ready full =
        let all = counted h bs ready in
        ⊎_elim
        (λ ten. let t = ten.1 in let l = ten.0 in ⊎_elim (λ a. omega (arith, a, t, l, all, count, some)) (λ a. omega (arith, a, t, l, all, count, some)) full)
        (λ whole. let t = whole.1 in let l = whole.0 in ⊎_elim (λ a. omega (arith, a, t, l, all, count, some)) (λ a. omega (arith, a, t, l, all, count, some)) full)
        (take_ten bs)

ten_sent : (h : Steps) (bs : List Batch) (i : ℕ) → i ≡ 10 → i ≤ length (to_send h bs) → i ≡ length (to_send h bs)
ten_sent h bs i ten some = by (is_ready h) refl
  where
    by : (b : Bool) → is_ready h ≡ b → i ≡ length (to_send h bs)
    by false not = let none = uncounted h bs not in omega (arith, none, some)
    by true ready =
        let all = counted h bs ready in
        ⊎_elim (λ t. let l = t.1 in omega (arith, ten, some, all, l)) (λ t. let l = t.1 in let u = t.0 in omega (arith, ten, some, all, l, u)) (take_ten bs)

-- what is outstanding behind them is pending
pub within : (h : Steps) (bs : List Batch) (count : ℕ) → count ≡ length (to_send h bs) → outstanding h ≤ length bs → outstanding (sent_times count h) ≤ length bs
within h bs count all pending = let more = sent_count count h in by (is_ready h) refl more
  where
    by : (b : Bool) → is_ready h ≡ b → outstanding (sent_times count h) ≡ outstanding h + count → outstanding (sent_times count h) ≤ length bs
    by false not more = let none = uncounted h bs not in omega (arith, none, all, pending, more)
    by true ready more =
        let so = counted h bs ready in
        ⊎_elim (λ t. let l = t.1 in let u = t.0 in omega (arith, so, all, pending, more, l, u)) (λ t. let l = t.1 in omega (arith, so, all, pending, more, l)) (take_ten bs)

-- ---- the places of those that are sent

pub from_more : (place n : ℕ) → from_place place n ++ SendBatch (place + n) ∷ [] ≡ from_place place (suc n)
from_more place zero = ap (λ p. SendBatch p ∷ []) (zero_more place)
  where
    zero_more : (p : ℕ) → p + 0 ≡ p
    zero_more p = omega arith
from_more place (suc n) = ap (λ l. SendBatch place ∷ l) (ap (λ p. from_place (suc place) n ++ SendBatch p ∷ []) (suc_more place n) ∙ from_more (suc place) n)
  where
    suc_more : (p m : ℕ) → p + suc m ≡ suc p + m
    suc_more p m = omega arith

-- ---- along the loop

pub record Sending (old now : Kept) (before outs : List Out) (i : ℕ) : Type 0 where
  pub rest : KeepsButPipeline old now
  pub stands : ComesAs old.writes (λ h. PipelineStandsFor now.writes.pipeline (sent_times i h))
  pub some : ComesAs old.writes (λ h. i ≤ length (to_send h old.store.state.batches))
  pub told : ComesAs old.writes (λ h. outs ≡ before ++ from_place (outstanding h) i)

pub none_sent : (old : Kept) (outs : List Out) → Sending old old outs outs 0
none_sent old outs = record {
  rest = record { root = refl; store = refl; listeners = refl; limbo = refl; watch = refl; opening = refl; spent = refl };
  stands = λ h stands. stands;
  some = λ h stands. omega arith;
  told = λ h stands. sym (append-nil outs);
}

keeps_then : {old mid new : Kept} → KeepsButPipeline old mid → KeepsButPipeline mid new → KeepsButPipeline old new
keeps_then first second = record { root = second.root ∙ first.root; store = second.store ∙ first.store; listeners = second.listeners ∙ first.listeners; limbo = second.limbo ∙ first.limbo; watch = second.watch ∙ first.watch; opening = second.opening ∙ first.opening; spent = second.spent ∙ first.spent }

pub sent_rest : {old now new : Kept} {before outs : List Out} {i : ℕ} → Sending old now before outs i → KeepsButPipeline now new → KeepsButPipeline old new
sent_rest it more = keeps_then it.rest more

same_batches : {old now : Kept} → KeepsButPipeline old now → now.store.state.batches ≡ old.store.state.batches
same_batches rest = ap (λ (x : Store). x.state.batches) rest.store

-- no more may be sent
pub sent_none : {old now new : Kept} {before outs : List Out} {i : ℕ} {result : Option ℕ} → ComesAs now.writes (λ h. result ≡ next_place h (length now.store.state.batches)) → result ≡ None
    → ComesAs now.writes (λ h. PipelineStandsFor new.writes.pipeline (then_sent result h)) → Sending old now before outs i → Sends old new before outs
sent_none {old} {now} {new} {before} {outs} {i} {result} next none stands it = record {
  count = i;
  stands = λ h on. subst (λ (r : Option ℕ). PipelineStandsFor new.writes.pipeline (then_sent r (sent_times i h))) none (stands (sent_times i h) (it.stands h on));
  all = λ h on. all_sent h old.store.state.batches i
      (ap (λ (bs : List Batch). next_place (sent_times i h) (length bs)) (sym (same_batches it.rest)) ∙ sym (next (sent_times i h) (it.stands h on)) ∙ none) (it.some h on);
  outs = it.told;
}

-- ten were sent
pub sent_ten : {old now : Kept} {before outs : List Out} {i : ℕ} → i ≡ 10 → Sending old now before outs i → Sends old now before outs
sent_ten {old} {now} {before} {outs} {i} ten it = record {
  count = i;
  stands = it.stands;
  all = λ h on. ten_sent h old.store.state.batches i ten (it.some h on);
  outs = it.told;
}

pub sent_more : {old now new : Kept} {before outs more : List Out} {i place : ℕ} {result : Option ℕ} → KeepsButPipeline now new → ComesAs now.writes (λ h. result ≡ next_place h (length now.store.state.batches)) → result ≡ Some place
    → ComesAs now.writes (λ h. PipelineStandsFor new.writes.pipeline (then_sent result h)) → more ≡ outs ++ SendBatch place ∷ [] → Sending old now before outs i → Sending old new before more (i + 1)
sent_more {old} {now} {new} {before} {outs} {more} {i} {place} {result} rest next some stands pushed it = record {
  rest = keeps_then it.rest rest;
  stands = λ h on. subst (λ n. PipelineStandsFor new.writes.pipeline (sent_times n h)) one_more (subst (λ (r : Option ℕ). PipelineStandsFor new.writes.pipeline (then_sent r (sent_times i h))) some (stands (sent_times i h) (it.stands h on)));
  some = λ h on. more_to_send h old.store.state.batches i place (is_next h on);
  told = λ h on.
      pushed ∙ ap (λ (l : List Out). l ++ SendBatch place ∷ []) (it.told h on) ∙ append_assoc before (from_place (outstanding h) i) (SendBatch place ∷ [])
      ∙ ap (λ p. before ++ (from_place (outstanding h) i ++ SendBatch p ∷ [])) (place_is h old.store.state.batches i place (is_next h on))
      ∙ ap (λ l. before ++ l) (from_more (outstanding h) i ∙ ap (from_place (outstanding h)) one_more);
}
  where
    one_more : suc i ≡ i + 1
    one_more = omega arith

    is_next : ComesAs old.writes (λ h. next_place (sent_times i h) (length old.store.state.batches) ≡ Some place)
    is_next h on = ap (λ (bs : List Batch). next_place (sent_times i h) (length bs)) (sym (same_batches it.rest)) ∙ sym (next (sent_times i h) (it.stands h on)) ∙ some

-- ---- the lines of those that are sent

-- those stand in the pending list from this place on
abbrev StandFrom : List Batch → ℕ → List Batch → Type 0
StandFrom bs place xs = (j : ℕ) (x : Batch) → slice_get xs j ≡ Some x → slice_get bs (place + j) ≡ Some x

get_drop : (n : ℕ) (xs : List Batch) → StandFrom xs n (drop n xs)
get_drop zero xs j x is = subst (λ k. slice_get xs k ≡ Some x) (zero_before j) is
  where
    zero_before : (k : ℕ) → k ≡ 0 + k
    zero_before k = omega arith
get_drop (suc n) [] j x is = absurd (none-some x (sym (nothing_there j) ∙ is))
  where
    nothing_there : (k : ℕ) → slice_get {X = Batch} [] k ≡ None
    nothing_there k = refl
get_drop (suc n) (y ∷ xs) j x is = subst (λ k. slice_get (y ∷ xs) k ≡ Some x) (suc_before n j) (get_drop n xs j x is)
  where
    suc_before : (m k : ℕ) → suc (m + k) ≡ suc m + k
    suc_before m k = omega arith

get_take : (n : ℕ) (xs : List Batch) (k : ℕ) (x : Batch) → slice_get (take n xs) k ≡ Some x → slice_get xs k ≡ Some x
get_take zero xs k x is = absurd (none-some x is)
get_take (suc n) [] k x is = absurd (none-some x is)
get_take (suc n) (y ∷ xs) zero x is = is
get_take (suc n) (y ∷ xs) (suc k) x is = get_take n xs k x is

to_send_stand : (h : Steps) (bs : List Batch) → StandFrom bs (outstanding h) (to_send h bs)
to_send_stand h bs = by (is_ready h)
  where
    by : (b : Bool) → StandFrom bs (outstanding h) (if b then drop (outstanding h) (take 10 bs) else [])
    by true j x is = get_take 10 bs (outstanding h + j) x (get_drop (outstanding h) (take 10 bs) j x is)
    by false j x is = absurd (none-some x is)

shown_from : (client : Kept) (steps : Steps) (token : List ℕ) (place : ℕ) (xs : List Batch) → PipelineStandsFor client.writes.pipeline steps → token ≡ latest_token steps → StandFrom client.store.state.batches place xs → AllZip (IsShown client) (from_place place (length xs)) (each (request_of token) xs)
shown_from client steps token place [] stands same stand = tt
shown_from client steps token place (x ∷ xs) stands same stand = (
  record { steps = steps; stands = stands; batch = x; there = subst (λ p. slice_get client.store.state.batches p ≡ Some x) (zero_more place) (stand 0 x refl); is = ap (λ (t : List ℕ). request_of t x) same },
  shown_from client steps token (suc place) xs stands same (λ j y is. subst (λ p. slice_get client.store.state.batches p ≡ Some y) (suc_more place j) (stand (suc j) y is)),
)
  where
    zero_more : (p : ℕ) → p + 0 ≡ p
    zero_more p = omega arith

    suc_more : (p m : ℕ) → p + suc m ≡ suc p + m
    suc_more p m = omega arith

-- the requests are shown of a client that sent them
pub shown_sent : (client : Kept) (h : Steps) (bs : List Batch) (count : ℕ) → client.store.state.batches ≡ bs → count ≡ length (to_send h bs) → PipelineStandsFor client.writes.pipeline (sent_times count h)
    → AllZip (IsShown client) (from_place (outstanding h) count) (each (request_of (latest_token h)) (to_send h bs))
shown_sent client h bs count same all stands =
    subst (λ n. AllZip (IsShown client) (from_place (outstanding h) n) (each (request_of (latest_token h)) (to_send h bs))) (sym all)
    (shown_from client (sent_times count h) (latest_token h) (outstanding h) (to_send h bs) stands (sym (sent_token count h))
    (subst (λ l. StandFrom l (outstanding h) (to_send h bs)) (sym same) (to_send_stand h bs)))
