-- an event has one turn
use Rattle.std.proofs.Common.{◌≡◌, ◌↔◌, ⊎_elim, ℕ, ◌<◌, ℤ, Bool, true, false, IsTrue, nat_eq, suc, List, [], ◌∷◌, length, ◌++◌, ◌&&◌, Option, Some, None, if◌then◌else◌, refl, sym, ap, subst, ◌∙◌, arith}
use Rattle.std.specs.List.{All, AllPairs}
use Rattle.std.specs.Prelude.{nat_lt}
use Rattle.std.proofs.lemmas.Bool.{eqb-true, eq-eqb, eqb-false, ltb-true, ltb-false, true≢false}
use Rattle.std.proofs.lemmas.Option.{none-some}
use Rattle.std.proofs.lemmas.List.Elements.{All-cons, All-head, All-tail, All-weaker, All-from_get_or, All-nil}
use Rattle.document_keys.specs.Names.{Root}
use Rattle.client_events.specs.declared.event.Event.{Event}
use Rattle.client_events.specs.declared.event.Event.TheVariants as event
use Rattle.limbo_resolver.specs.Limbo.{Key}
use Rattle.listeners.proofs.Outcomes.{refresh_is_one}
use Rattle.durable_state.specs.State.{State}
use Rattle.queries.proofs.Counting.{pairs_tail}
use Rattle.queries.specs.declared.target.Target.{Target}
use Rattle.target_cache.specs.Cache.{TellsId}
use Rattle.target_cache.specs.declared.row.Row.{Row}
use Rattle.durable_state.specs.Documents.{documents_of, touched_keys_of}
use Rattle.views.specs.Refresh.{Refreshes}
use Rattle.views.specs.Viewed.{Viewed}
use Rattle.views.specs.declared.raised.Raised.{Raised}
use Rattle.views.specs.declared.view.Refresh.{Refresh}
use Rattle.client_turns.specs.Answers.{Answers, Begins, listens}
use Rattle.client_turns.specs.Turns.{after, refused}
use Rattle.client_turns.specs.Laws.{ATurnIsOne}
use Rattle.client_turns.specs.Lines.{Told}
use Rattle.client_turns.specs.Past.{Turn, Past, listener, steps_of}
use Rattle.client_turns.specs.Writing.{IsWritten, WrittenTurn, acknowledges, fails, first_batch, is_open, member_name, settles, shakes}
use Rattle.client_turns.specs.declared.refusal.Refusal.TheVariants.{BadMessage}
use Rattle.mutations.specs.declared.batch.Batch.{Batch}
use Rattle.mutations.specs.Results.{FitsWrites}
use Rattle.mutations.specs.declared.results.WriteResponse.{WriteResponse}
use Rattle.mutations.specs.declared.results.WriteResult.{WriteResult}
use Rattle.mutations.specs.declared.write.Write.{Write}
use Rattle.value_model.specs.declared.message.StreamName.TheVariants as stream
use Rattle.write_pipeline.specs.Order.{Steps, is_ready, outstanding}
use Rattle.write_pipeline.specs.Standing.{Fails, Fits, HasResults, HasTransforms}
use Rattle.write_pipeline.specs.declared.answer.Answer.{Answer}
use Rattle.write_pipeline.specs.declared.answer.Answer.TheVariants.{Handshake, Acknowledges}
use Rattle.write_pipeline.specs.declared.answer.WriteMember.{WriteMember}
use Rattle.write_pipeline.specs.declared.answer.WriteMember.TheVariants.{WriteResults, CommitTime, TransformResults}
use Rattle.client_turns.specs.Asking.{resets_by}
use Rattle.client_turns.specs.Settling.{Shows, ShowsAt, Settles, Stance, IsBelow, raised_by, stance_of, told_to, AreInLimbo}
use Rattle.client_turns.specs.Turn.{AsksBehind, IsSettled, LimboBehind, Settled, SettlesAfter, answered_next, batches_behind, is_heard, with_limbo, with_lines, with_snapshots}
use Rattle.client_turns.specs.Watching.{is_watched}
use Rattle.client_turns.proofs.HeardOnes.{asks_one, heard_one}
use Rattle.document_keys.proofs.Exact.{same_keys}

-- ---- what is shown of one listener

both_true : (a b : Bool) {P : Type 0} → IsTrue a ↔ P → IsTrue b ↔ P → a ≡ b
both_true true true first second = refl
both_true true false first second = sym (second.1 (first.0 refl))
both_true false true first second = first.1 (second.0 refl)
both_true false false first second = refl

shows_one : (root : Root) (s : State) (stance : Stance) (view : Viewed) (a b : Option Raised) → Shows root s stance view a → Shows root s stance view b → a ≡ b
shows_one root s stance view a b first second =
    let starts : first.may_start ≡ second.may_start = both_true first.may_start second.may_start first.start second.start in
    let one = refresh_is_one root (documents_of s) (touched_keys_of s) stance.standing second.may_start view first.new second.new first.refresh second.refresh (subst (λ (m : Bool). Refreshes root (documents_of s) (touched_keys_of s) stance.standing m view first.new first.refresh) starts first.refreshes) second.refreshes in
    first.is ∙ raised_same first.refresh second.refresh first.new second.new one.raised one.view ∙ sym second.is
  where
    raised_same : (r q : Refresh) (v w : Viewed) → r.raised ≡ q.raised → v ≡ w → raised_by r v ≡ raised_by q w
    raised_same r q v w told same = (λ i. if told i then (same i).raised else None)

shows_at_one : (root : Root) (s : State) (stance : Stance) (view : Option Viewed) (a b : Option Raised) → ShowsAt root s stance view a → ShowsAt root s stance view b → a ≡ b
shows_at_one root s stance None a b first second = first ∙ sym second
shows_at_one root s stance (Some view) a b first second = shows_one root s stance view a b first second

-- ---- lists of snapshots

-- one that is below all of them isn't told
none_below : (n : ℕ) (ts : List Told) → All (λ t. n < t.id) ts → told_to n ts ≡ None
none_below n [] all = refl
none_below n (t ∷ ts) all = go (none_below n ts (All-tail (λ (x : Told). n < x.id) t ts all)) (nat_eq t.id n) refl
  where
    go : told_to n ts ≡ None → (b : Bool) → nat_eq t.id n ≡ b → (if b then Some t.raised else told_to n ts) ≡ None
    go rest true is = let same = eqb-true t.id n is in let less : n < t.id = All-head (λ (x : Told). n < x.id) t ts all in absurd (omega (arith, same, less))
    go rest false is = rest

pub told_first : (t : Told) (ts : List Told) → told_to t.id (t ∷ ts) ≡ Some t.raised
told_first t ts = ap (λ b. if b then Some t.raised else told_to t.id ts) (eq-eqb t.id t.id refl)

pub told_later : (n : ℕ) (t : Told) (ts : List Told) → (t.id ≡ n → ⊥) → told_to n (t ∷ ts) ≡ told_to n ts
told_later n t ts other = go (nat_eq t.id n) refl
  where
    go : (b : Bool) → nat_eq t.id n ≡ b → (if b then Some t.raised else told_to n ts) ≡ told_to n ts
    go true is = absurd (other (eqb-true t.id n is))
    go false is = refl

pub head_below : (t : Told) (ts : List Told) → AllPairs IsBelow (t ∷ ts) → All (λ (x : Told). t.id < x.id) ts
head_below t ts pairs = All-from_get_or (λ (x : Told). t.id < x.id) ts t (λ i inside. pairs 0 (suc i) t (omega arith) (omega (arith, inside)))

-- each snapshot is the one of its id
pub all_told : (ts : List Told) → AllPairs IsBelow ts → All (λ (t : Told). told_to t.id ts ≡ Some t.raised) ts
all_told [] pairs = All-nil (λ (t : Told). told_to t.id [] ≡ Some t.raised)
all_told (t ∷ ts) pairs =
    All-cons (λ (x : Told). told_to x.id (t ∷ ts) ≡ Some x.raised) t ts (told_first t ts)
    (All-weaker (λ (x : Told). (t.id < x.id) × (told_to x.id ts ≡ Some x.raised)) (λ (x : Told). told_to x.id (t ∷ ts) ≡ Some x.raised)
    (λ x both. told_later x.id t ts (λ same. let less = both.0 in absurd (omega (arith, same, less))) ∙ both.1) ts
    (all_both (λ (x : Told). t.id < x.id) (λ (x : Told). told_to x.id ts ≡ Some x.raised) ts (head_below t ts pairs) (all_told ts (pairs_tail IsBelow t ts pairs))))
  where
    all_both : (P Q : Told → Type 0) (us : List Told) → All P us → All Q us → All (λ (x : Told). P x × Q x) us
    all_both P Q [] first second = All-nil (λ (x : Told). P x × Q x)
    all_both P Q (u ∷ us) first second = All-cons (λ (x : Told). P x × Q x) u us (All-head P u us first, All-head Q u us second) (all_both P Q us (All-tail P u us first) (All-tail Q u us second))

-- a list that begins above another one's head misses that
misses : (t : Told) (ts : List Told) (u : Told) (us : List Told) → AllPairs IsBelow (u ∷ us) → t.id < u.id → told_to t.id (t ∷ ts) ≡ told_to t.id (u ∷ us) → ⊥
misses t ts u us pairs less same =
    let above : All (λ (x : Told). t.id < x.id) us = All-weaker (λ (x : Told). u.id < x.id) (λ (x : Told). t.id < x.id) (λ x more. omega (arith, less, more)) us (head_below u us pairs) in
    none-some t.raised (sym (none_below t.id (u ∷ us) (All-cons (λ (x : Told). t.id < x.id) u us less above)) ∙ sym same ∙ told_first t ts)

some_one : {A : Type 0} (x y : A) → Some x ≡ Some y → x ≡ y
some_one x y same = cc

told_same : (t u : Told) → t.id ≡ u.id → t.raised ≡ u.raised → t ≡ u
told_same t u ids raised = λ i. record { id = ids i; raised = raised i }

tolds_one : (ts us : List Told) → AllPairs IsBelow ts → AllPairs IsBelow us → ((n : ℕ) → told_to n ts ≡ told_to n us) → ts ≡ us
tolds_one [] [] first second same = refl
tolds_one [] (u ∷ us) first second same = absurd (none-some u.raised (same u.id ∙ told_first u us))
tolds_one (t ∷ ts) [] first second same = absurd (none-some t.raised (sym (same t.id) ∙ told_first t ts))
tolds_one (t ∷ ts) (u ∷ us) first second same = by_order (λ rest. tolds_one ts us (pairs_tail IsBelow t ts first) (pairs_tail IsBelow u us second) rest) (nat_lt t.id u.id) refl (nat_lt u.id t.id) refl
  where
    rest : t.id ≡ u.id → (n : ℕ) → (b : Bool) → nat_eq t.id n ≡ b → told_to n ts ≡ told_to n us
    rest ids n true is =
        let at : t.id ≡ n = eqb-true t.id n is in
        none_below n ts (All-weaker (λ (x : Told). t.id < x.id) (λ (x : Told). n < x.id) (λ x more. omega (arith, at, more)) ts (head_below t ts first))
        ∙ sym (none_below n us (All-weaker (λ (x : Told). u.id < x.id) (λ (x : Told). n < x.id) (λ x more. omega (arith, at, ids, more)) us (head_below u us second)))
    rest ids n false is =
        let not_t : t.id ≡ n → ⊥ = eqb-false t.id n is in
        sym (told_later n t ts not_t) ∙ same n ∙ told_later n u us (λ at. not_t (ids ∙ at))

    by_order : (((n : ℕ) → told_to n ts ≡ told_to n us) → ts ≡ us) → (a : Bool) → nat_lt t.id u.id ≡ a → (b : Bool) → nat_lt u.id t.id ≡ b → t ∷ ts ≡ u ∷ us
    by_order again true less b other = absurd (misses t ts u us second (ltb-true t.id u.id less) (same t.id))
    by_order again false not_less true more = absurd (misses u us t ts first (ltb-true u.id t.id more) (sym (same u.id)))
    by_order again false not_less false not_more =
        let up = ltb-false t.id u.id not_less in
        let down = ltb-false u.id t.id not_more in
        let ids : t.id ≡ u.id = omega (arith, up, down) in
        let heads : Some t.raised ≡ Some u.raised = sym (told_first t ts) ∙ same t.id ∙ ap (λ n. told_to n (u ∷ us)) ids ∙ told_first u us in
        let one : t ≡ u = told_same t u ids (some_one t.raised u.raised heads) in
        let others : ts ≡ us = again (λ n. rest ids n (nat_eq t.id n) refl) in
        λ i. one i ∷ others i

settles_one : (root : Root) (s : State) (stance : ℕ → Stance) (listening : ℕ → Option Viewed) (ts us : List Told) → Settles root s stance listening ts → Settles root s stance listening us → ts ≡ us
settles_one root s stance listening ts us first second = tolds_one ts us first.ascending second.ascending (λ n. shows_at_one root s (stance n) (listening n) (told_to n ts) (told_to n us) (first.each n) (second.each n))

-- they are one list
pub limbo_once : (root : Root) (s : State) (stance : ℕ → Stance) (listening : ℕ → Option Viewed) (keys others : List Key) → AreInLimbo root s stance listening keys → AreInLimbo root s stance listening others → keys ≡ others
limbo_once root s stance listening keys others one two = same_keys keys others one.ascending two.ascending (λ key. (λ there. (two.each key).1 ((one.each key).0 there), λ there. (one.each key).1 ((two.each key).0 there)))

-- ---- the answer

tells_one : (rows : List Row) (target : Target) (a b : Option ℤ) → TellsId rows target a → TellsId rows target b → a ≡ b
tells_one rows target None None first second = refl
tells_one rows target None (Some y) first second = absurd (first y ((second y).1 refl))
tells_one rows target (Some x) None first second = absurd (second x ((first x).1 refl))
tells_one rows target (Some x) (Some y) first second = ap Some (sym ((first y).0 ((second y).1 refl)))

begins_one : (s : State) (id : ℕ) (query : Target) (view : Option Viewed) (t u : Turn) → Begins s id query view t → Begins s id query view u → t ≡ u
begins_one s id query (Some view) t u first second = first ∙ sym second
begins_one s id query None t u first second = first.2 ∙ ap (listens s id query) (tells_one s.rows query first.0 second.0 first.1 second.1) ∙ sym second.2

-- ---- a message on the stream of writes

some_same : {A : Type 0} (x y : A) → Some x ≡ Some y → x ≡ y
some_same x y same = cc

fits_length : (writes : List Write) (results : List WriteResult) → FitsWrites writes results → length writes ≡ length results
fits_length [] [] fits = refl
fits_length [] (r ∷ results) fits = absurd fits
fits_length (w ∷ writes) [] fits = absurd fits
fits_length (w ∷ writes) (r ∷ results) fits = ap suc (fits_length writes results fits.1)

-- a message that fits doesn't fail
fits_or_fails : (h : Steps) (first : Option Batch) (response : WriteResponse) (answer : Answer) (member : WriteMember) → Fits h first response answer → Fails h first response member → ⊥
fits_or_fails h first response Handshake WriteResults fits not = ⊎_elim (λ some. some.1 fits.1) (λ late. true≢false (sym late.0 ∙ fits.0)) not
fits_or_fails h first response Handshake CommitTime fits not = true≢false (sym not.0 ∙ fits.0)
fits_or_fails h first response Handshake TransformResults fits not = true≢false (sym not.0 ∙ fits.0)
fits_or_fails h first response Acknowledges WriteResults fits not = ⊎_elim (λ early. true≢false (sym fits.0 ∙ early.0)) (λ late. ⊎_elim (λ none. let some = fits.1 in omega (arith, none, some)) (λ no. no (has first fits.2)) late.1) not
  where
    has : (found : Option Batch) → HasTransforms found response → HasResults found response
    has None it = it
    has (Some batch) it = sym (fits_length batch.writes response.results it)
fits_or_fails h first response Acknowledges CommitTime fits not = fits.3 not.3
fits_or_fails h first response Acknowledges TransformResults fits not = not.4 fits.2

too_early : (h : Steps) (first : Option Batch) (response : WriteResponse) → Fails h first response WriteResults → is_ready h ≡ true → 0 < outstanding h → HasResults first response → ⊥
too_early h first response not ready some has = ⊎_elim (λ early. true≢false (sym ready ∙ early.0)) (λ late. ⊎_elim (λ none. omega (arith, none, some)) (λ no. no has) late.1) not

member_one : (h : Steps) (first : Option Batch) (response : WriteResponse) (a b : WriteMember) → Fails h first response a → Fails h first response b → a ≡ b
member_one h first response WriteResults WriteResults one two = refl
member_one h first response CommitTime CommitTime one two = refl
member_one h first response TransformResults TransformResults one two = refl
member_one h first response WriteResults CommitTime one two = absurd (too_early h first response one two.0 two.1 two.2)
member_one h first response WriteResults TransformResults one two = absurd (too_early h first response one two.0 two.1 two.2)
member_one h first response CommitTime WriteResults one two = absurd (too_early h first response two one.0 one.1 one.2)
member_one h first response TransformResults WriteResults one two = absurd (too_early h first response two one.0 one.1 one.2)
member_one h first response CommitTime TransformResults one two = absurd (two.3 one.3)
member_one h first response TransformResults CommitTime one two = absurd (one.3 two.3)

written_one : (s : State) (h : Steps) (response : WriteResponse) (t u : Turn) → IsWritten s h response t → IsWritten s h response u → t ≡ u
written_one s h response t u (shakes fits is) (shakes fits_too is_too) = is ∙ sym is_too
written_one s h response t u (shakes fits is) (acknowledges batch time first at fits_too is_too) = absurd (true≢false (sym fits_too.0 ∙ fits.0))
written_one s h response t u (shakes fits is) (fails member not is_too) = absurd (fits_or_fails h (first_batch s) response Handshake member fits not)
written_one s h response t u (acknowledges batch time first at fits is) (shakes fits_too is_too) = absurd (true≢false (sym fits.0 ∙ fits_too.0))
written_one s h response t u (acknowledges batch time first at fits is) (acknowledges other later first_too at_too fits_too is_too) =
    let batches : batch ≡ other = some_same batch other (sym first ∙ first_too) in
    let times : time ≡ later = some_same time later (sym at ∙ at_too) in
    is ∙ (λ i. settles s (batches i).id (times i) response.results) ∙ sym is_too
written_one s h response t u (acknowledges batch time first at fits is) (fails member not is_too) = absurd (fits_or_fails h (first_batch s) response Acknowledges member fits not)
written_one s h response t u (fails member not is) (shakes fits is_too) = absurd (fits_or_fails h (first_batch s) response Handshake member fits not)
written_one s h response t u (fails member not is) (acknowledges batch time first at fits is_too) = absurd (fits_or_fails h (first_batch s) response Acknowledges member fits not)
written_one s h response t u (fails member not is) (fails other not_too is_too) =
    is ∙ ap (λ (m : WriteMember). refused (BadMessage stream.Write (member_name m))) (member_one h (first_batch s) response member other not not_too) ∙ sym is_too

message_one : (s : State) (h : Steps) (response : WriteResponse) (opening : Bool) (t u : Turn) → WrittenTurn s h response opening t → WrittenTurn s h response opening u → t ≡ u
message_one s h response true t u first second = written_one s h response t u first second
message_one s h response false t u first second = first ∙ sym second

pub answers_one : (s : State) (past : Past) (e : Event) (t u : Turn) → Answers s past e t → Answers s past e u → t ≡ u
answers_one s past (event.Write at writes) t u first second = first ∙ sym second
answers_one s past (event.Get key) t u first second = first ∙ sym second
answers_one s past (event.Listen id query) t u first second = begins_one s id query (listener id past) t u first second
answers_one s past (event.Unlisten id) t u first second = first ∙ sym second
answers_one s past (event.Opened name) t u first second = first ∙ sym second
answers_one s past (event.Closed name status) t u first second = first ∙ sym second
answers_one s past (event.Written response) t u first second = message_one s (steps_of past) response (is_open (steps_of past)) t u first second
answers_one s past (event.BadMessage name member) t u first second = first ∙ sym second
answers_one s past (event.Watch response) t u first second = heard_one s past response (is_watched past) t u first second
answers_one s past event.Timer t u first second = first ∙ sym second

-- ---- the turn

settled_one : (root : Root) (s : State) (past : Past) (e : Event) (answer t u : Turn) → Settled root s past e answer t → Settled root s past e answer u → t ≡ u
settled_one root s past e answer t u first second =
    first.is ∙ ap (with_snapshots (after s answer.commit) answer) (settles_one root (after s answer.commit) (stance_of (answered_next s past e answer)) (λ id. listener id (answered_next s past e answer)) first.told second.told first.settles second.settles) ∙ sym second.is

after_one : (root : Root) (s : State) (past : Past) (e : Event) (answer : Turn) (heard : Bool) (t u : Turn) → SettlesAfter root s past e answer heard t → SettlesAfter root s past e answer heard u → t ≡ u
after_one root s past e answer true t u first second = settled_one root s past e answer t u first second
after_one root s past e answer false t u first second = first ∙ sym second

settled_is_one : (root : Root) (s : State) (past : Past) (e : Event) (t u : Turn) → IsSettled root s past e t → IsSettled root s past e u → t ≡ u
settled_is_one root s past e t u first second =
    let same = answers_one s past e first.answer second.answer first.answers second.answers in
    after_one root s past e second.answer (is_heard second.answer.refusal) t u (subst (λ (a : Turn). SettlesAfter root s past e a (is_heard a.refusal) t) same first.settles) second.settles

-- the documents in limbo behind it are one list
limbo_is_one : (root : Root) (s : State) (past : Past) (e : Event) (t : Turn) (heard : Bool) (keys others : List Key) → LimboBehind root s past e t heard keys → LimboBehind root s past e t heard others → keys ≡ others
limbo_is_one root s past e t true keys others first second =
    limbo_once root (after s t.commit) (stance_of (answered_next s past e t)) (λ id. listener id (answered_next s past e t)) keys others first second
limbo_is_one root s past e t false keys others first second = first ∙ sym second

pub a_turn_is_one : ATurnIsOne
a_turn_is_one root s past e t u first second =
    let same : first.settled ≡ second.settled = settled_is_one root s past e first.settled second.settled first.is_settled second.is_settled in
    let keys : first.limbo ≡ second.limbo = limbo_is_one root s past e second.settled (is_heard second.settled.refusal) first.limbo second.limbo
    (subst (λ (a : Turn). LimboBehind root s past e a (is_heard a.refusal) first.limbo) same first.in_limbo) second.in_limbo in
    let with_keys : with_limbo first.settled first.limbo ≡ with_limbo second.settled second.limbo = λ i. with_limbo (same i) (keys i) in
    let next = answered_next s past e (with_limbo second.settled second.limbo) in
    let asks : first.asked ≡ second.asked = asks_one (is_heard second.settled.refusal && is_watched next) (after s second.settled.commit) next (resets_by e second.settled.commit past) first.asked second.asked
    (subst (λ (a : Turn). AsksBehind s past e a first.asked) with_keys first.asks) second.asks in
    first.is ∙ (λ i. with_lines (with_keys i) (asks i ++ batches_behind s past e (same i))) ∙ sym second.is
