-- an event with the documents in limbo then, and its requests on the stream of listeners
use Rattle.std.proofs.Common.{◌≡◌, ◌↔◌, ◌⊎◌, ⊎_elim, inl, inr, ℕ, ℤ, ◌≤◌, Bool, true, false, ◌||◌, List, [], ◌∷◌, ◌++◌, map as each, length, Option, Some, None, is_some, option_map, IfSome, Vec, Global, refl, sym, ap, subst, ◌∙◌, arith}
use Rattle.std.proofs.lemmas.Bool.{true≢false}
use Rattle.std.proofs.lemmas.Bool.Decides.{Decides-int_eq}
use Rattle.std.proofs.lemmas.List.{append-nil, append_assoc}
use Rattle.std.proofs.lemmas.List.Elements.{Contains-append_cases, Contains-append_left, Contains-append_right}
use Rattle.std.proofs.lemmas.List.Sums.{fold-append}
use Rattle.std.specs.List.{AllZip, Contains, fold, slice_get}
use Rattle.std.specs.Ordering.{int_eq}
use Rattle.document_keys.specs.Names.{Root}
use Rattle.client_events.specs.declared.event.Event.{Event}
use Rattle.client_events.specs.declared.event.Event.TheVariants as event
use Rattle.limbo_listens.proofs.Laws.{running_stays, update_sound}
use Rattle.limbo_listens.specs.Listens.{Listens, Settles, limbo_at}
use Rattle.limbo_resolver.specs.Limbo.{Key, Limbo, ended, ids_of, started, updated}
use Rattle.listen_protocol.specs.Calls.{Calls}
use Rattle.listen_protocol.specs.Transcript.{is_asked_in}
use Rattle.listeners.specs.Table.{IsWanted, Table, target_of, viewed}
use Rattle.local_store.specs.Documents.{document_of, standing_of}
use Rattle.local_store.specs.State.{State}
use Rattle.local_store.specs.Store.{Store}
use Rattle.record_codec.specs.declared.commit.Commit.{Commit}
use Rattle.target_cache.specs.declared.row.Row.{Row}
use Rattle.views.specs.Viewed.{Viewed}
use Rattle.watch_aggregator.specs.Standing.{StandsFor as AggregatorStandsFor}
use Rattle.watch_aggregator.specs.declared.aggregator.Aggregator.{Aggregator}
use Rattle.watch_points.specs.SpelledCalls.{AreSpelledCalls}
use Rattle.write_pipeline.specs.Order.{Steps, outstanding}
use Rattle.write_pipeline.specs.Standing.{StandsFor as PipelineStandsFor}
use Rattle.client_turns.specs.Asking.{Asks, AsksIf, IsAddLine, IsAdded, IsListenAdded, IsListenLine, IsRemoved, resets_by}
use Rattle.client_turns.specs.LimboListens.{going_on, is_running, is_sought, limbo_of}
use Rattle.client_turns.specs.Lines.{Line, add, document, remove, snapshot}
use Rattle.client_turns.specs.Past.{Past, Turn, asked as asked_of, is_refused_in, listener, raised_in, sent_in, steps_by, steps_of, told, unless_refused}
use Rattle.sync_engine.specs.Requesting.{AsksFor, IsDueIn, IsListenToAdd, IsSought, IsToAdd, IsToRemove, KeepsButCalls, Picked, Requests, SettlesLimbo, with_listens}
use Rattle.client_turns.specs.Watching.{unasked_all, begun_by, begun_in, calls_of, is_wanted, is_watched, listened_by, listened_in, open_by, requested_by, requested_in, step_by}
use Rattle.client_turns.specs.Settling.{Stance, current_with, stance_of, HasTargetRow}
use Rattle.sync_engine.specs.Standing.{IsDue, IsQuiet, Kept, StandsAfter, StandsFor, StandsOn, StandsWith, Watches, limbo_in, standing_in}
use Rattle.sync_engine.specs.Stream.{resets_of}
use Rattle.sync_engine.specs.Telling.{HandsSettled, IsShown, ResetsAsDue}
use Rattle.client_turns.specs.Turn.{IsSettled, LimboBehind, answered_next, is_heard, with_limbo, with_lines}
use Rattle.client_turns.specs.Turns.{after}
use Rattle.sync_engine.specs.declared.current.CurrentTargets.{CurrentTargets}
use Rattle.sync_engine.specs.declared.out.Out.{Out}
use Rattle.sync_engine.specs.declared.out.Out.TheVariants as out
use Rattle.sync_engine.specs.declared.out.Outcome.TheVariants.{Done, Refused}
use Rattle.client_turns.specs.declared.refusal.Refusal.{Refusal}
use Rattle.sync_engine.specs.declared.watch_stream.Due.{Due}
use Rattle.sync_engine.specs.declared.watch_stream.Due.TheVariants.{Nothing, One, Resets, All as due_all}
use Rattle.sync_engine.specs.declared.write_stream.WriteStream.{WriteStream}
use Rattle.sync_engine.proofs.Handing.{refused_behind}
use Rattle.sync_engine.proofs.InLimbo.{shown_in_limbo}
use Rattle.client_turns.proofs.Reading.{calls_behind, current_behind, sought_behind, stance_behind, targets_behind}
use Rattle.client_turns.proofs.Requested.{IsAdd, adds_unsent, all_adds, asked_added, asked_removed, fold_adds, fold_removes, removes_requested, removes_unsent, spelled_requested, zip_append}
use Rattle.client_turns.proofs.Requests.{AddsNone, IsNoAdd, raised_adds, raised_before, raised_removes, refused_adds, refused_removes, settled_plain, settled_silent}
use Rattle.sync_engine.proofs.Requests.{HandsAsked}
use Rattle.client_turns.proofs.Steps.{sent_behind}
use Rattle.client_turns.proofs.Wanted.{cons_cases, first_among, later_among, same_truth, wanted_in}

-- ---- small facts

false_or_true : (b : Bool) → (b ≡ false) ⊎ (b ≡ true)
false_or_true true = inr refl
false_or_true false = inl refl

either_is : (a b : Bool) → ((a || b) ≡ true) ↔ ((a ≡ true) ⊎ (b ≡ true))
either_is true b = (inl, λ it. refl)
either_is false b = (inr, λ it. ⊎_elim (λ no. absurd (true≢false (sym no))) (λ is. is) it)

not_true : (b : Bool) → (b ≡ true → ⊥) → b ≡ false
not_true true never = absurd (never refl)
not_true false never = refl

-- an id is among these, or isn't
among : (ids : List ℤ) (t : ℤ) → Contains ids t ⊎ (Contains ids t → ⊥)
among [] t = inr (λ there. absurd (omega (arith, there.1)))
among (x ∷ ids) t = by (int_eq x t) refl (among ids t)
  where
    by : (b : Bool) → int_eq x t ≡ b → Contains ids t ⊎ (Contains ids t → ⊥) → Contains (x ∷ ids) t ⊎ (Contains (x ∷ ids) t → ⊥)
    by true is rest = inl (subst (Contains (x ∷ ids)) ((Decides-int_eq x t).0 is) (first_among x ids))
    by false is (inl there) = inl (later_among x t ids there)
    by false is (inr never) = inr (λ there. ⊎_elim (λ same. true≢false (sym ((Decides-int_eq x t).1 same) ∙ is)) never (cons_cases x t ids there))

-- a target that is reset is due
reset_due : (client : Kept) (d : Due) (t : ℤ) → Contains (resets_of d) t → IsDueIn client d t
reset_due client Nothing t there = absurd (omega (arith, there.1))
reset_due client (One id) t there = absurd (omega (arith, there.1))
reset_due client (Resets ids) t there = there
reset_due client due_all t there = absurd (omega (arith, there.1))

-- what is refused resets no target, unless the stream is closed
no_reset : (e : Event) (refusal : Refusal) (commit : Option Commit) (past : Past) (was : Bool) → open_by (step_by e (Some refusal)) was ≡ true → (t : ℤ) → resets_by e commit past t ≡ false
no_reset (event.Write at writes) refusal commit past was opened t = refl
no_reset (event.Get key) refusal commit past was opened t = refl
no_reset (event.Listen id query) refusal commit past was opened t = refl
no_reset (event.Unlisten id) refusal commit past was opened t = refl
no_reset (event.Opened name) refusal commit past was opened t = refl
no_reset (event.Closed name status) refusal commit past was opened t = refl
no_reset (event.Watch response) refusal commit past was opened t = absurd (true≢false (sym opened))
no_reset (event.Written response) refusal commit past was opened t = refl
no_reset (event.BadMessage name member) refusal commit past was opened t = refl
no_reset event.Timer refusal commit past was opened t = refl

-- lines of requests, each plain to a reading
fold_asked : {B : Type 0} (f : B → Line → B) → ((b : B) (t : ℤ) → f b (remove t) ≡ b) → ((b : B) (t : ℤ) (row : Row) → f b (add t row) ≡ b) → (removed ids : List ℤ) (adds : List Line) (b : B) → AllZip IsAdd ids adds → fold f b (each remove removed ++ adds) ≡ b
fold_asked f removes plain removed ids adds b all = fold-append f b (each remove removed) adds ∙ ap (λ x. fold f x adds) (fold_removes f removes removed b) ∙ fold_adds f plain ids adds b all

-- what was shown is shown still: no listen of a document in limbo is among it
shown_asked : (mid new : Kept) (limbo : Listens) → KeepsButCalls (with_listens mid limbo) new → (out : Out) (line : Line) → IsNoAdd line → IsShown mid out line → IsShown new out line
shown_asked mid new limbo kept (out.Wrote batch commit) line plain is = is
shown_asked mid new limbo kept (out.Listening id target commit) line plain is = is
shown_asked mid new limbo kept (out.Unlistened id commit) line plain is = is
shown_asked mid new limbo kept (out.Document key) line plain is = subst (λ (x : Store). line ≡ document key (document_of x.state key) (standing_of x.state key)) (sym kept.store) is
shown_asked mid new limbo kept (out.Result batch commit time) line plain is = is
shown_asked mid new limbo kept (out.Rejected batch commit status) line plain is = is
shown_asked mid new limbo kept (out.Error id status) line plain is = is
shown_asked mid new limbo kept (out.Raised id) line plain is = record {
  view = is.view;
  there = ap (λ (t : Table). viewed t id) kept.listeners ∙ is.there;
  raised = is.raised;
  last = is.last;
  is = is.is ∙ ap (λ (x : Store). snapshot x.state.number x.state.last_read (record { id = id; raised = is.raised })) (sym kept.store);
}
shown_asked mid new limbo kept (out.AddTarget t) line plain is = subst (λ (x : Store). IsAddLine x.state t line) (sym kept.store) is
shown_asked mid new limbo kept (out.AddLimboTarget t) line plain is = absurd (subst IsNoAdd is.is plain)
shown_asked mid new limbo kept (out.RemoveTarget t) line plain is = is
shown_asked mid new limbo kept out.SendHandshake line plain is = is
shown_asked mid new limbo kept (out.SendBatch place) line plain is = record {
  steps = is.steps;
  stands = subst (λ (w : WriteStream). PipelineStandsFor w.pipeline is.steps) (sym kept.writes) is.stands;
  batch = is.batch;
  there = ap (λ (x : Store). slice_get x.state.batches place) kept.store ∙ is.there;
  is = is.is;
}

all_asked : (mid new : Kept) (limbo : Listens) → KeepsButCalls (with_listens mid limbo) new → (outs : List Out) (lines : List Line) → AddsNone lines → AllZip (IsShown mid) outs lines → AllZip (IsShown new) outs lines
all_asked mid new limbo kept [] [] plain all = tt
all_asked mid new limbo kept [] (line ∷ lines) plain all = absurd all
all_asked mid new limbo kept (out ∷ outs) [] plain all = absurd all
all_asked mid new limbo kept (out ∷ outs) (line ∷ lines) plain all = (shown_asked mid new limbo kept out line plain.0 all.0, all_asked mid new limbo kept outs lines plain.1 all.1)

removes_shown : (client : Kept) (ids : List ℤ) → AllZip (IsShown client) (each out.RemoveTarget ids) (each remove ids)
removes_shown client [] = tt
removes_shown client (x ∷ ids) = (refl, removes_shown client ids)

adds_shown : (client : Kept) (ids : List ℤ) (lines : List Line) → AllZip (IsAddLine client.store.state) ids lines → AllZip (IsShown client) (each out.AddTarget ids) lines
adds_shown client [] [] all = tt
adds_shown client [] (line ∷ lines) all = absurd all
adds_shown client (x ∷ ids) [] all = absurd all
adds_shown client (x ∷ ids) (line ∷ lines) all = (all.0, adds_shown client ids lines all.1)

listens_shown : (client : Kept) (ids : List ℤ) (lines : List Line) → AllZip (IsListenLine client.limbo.limbo) ids lines → AllZip (IsShown client) (each out.AddLimboTarget ids) lines
listens_shown client [] [] all = tt
listens_shown client [] (line ∷ lines) all = absurd all
listens_shown client (x ∷ ids) [] all = absurd all
listens_shown client (x ∷ ids) (line ∷ lines) all = (all.0, listens_shown client ids lines all.1)

-- ---- behind an event that is heard

module _ (mid new : Kept) (limbo : Listens) (s : State) (past : Past) (e : Event) (settled : Turn) (changed : List ℤ) (before after_them : List Out)
    (is_settled : IsSettled mid.root s past e settled) (heard : is_heard settled.refusal ≡ true)
    (stands : StandsWith mid (after s settled.commit) (answered_next s past e settled) (going_on (calls_of past) (step_by e settled.refusal) (limbo_of past)))
    (shown : AllZip (IsShown mid) before settled.lines) (settles : Settles mid.limbo limbo changed) (kept : KeepsButCalls (with_listens mid limbo) new) (idle : new.watch.due ≡ Nothing) where
  abbrev now : Kept
  now = with_listens mid limbo

  abbrev later : State
  later = after s settled.commit

  -- the listens that go on from before
  abbrev going : Limbo
  going = going_on (calls_of past) (step_by e settled.refusal) (limbo_of past)

  abbrev wanted : List Key
  wanted = settles.wanted

  abbrev turn : Turn
  turn = with_limbo settled wanted

  abbrev next : Past
  next = answered_next s past e turn

  limbo_now : limbo.limbo ≡ limbo_of next
  limbo_now = settles.limbo ∙ ap (updated wanted) stands.limbo_is

  wanted_iff : (t : ℤ) → IsWanted mid.listeners t ↔ (is_wanted t next ≡ true)
  wanted_iff = wanted_in mid.listeners next stands.targets

  running_now : (t : ℤ) → is_running t limbo.limbo ≡ is_running t (limbo_of next)
  running_now t = ap (is_running t) limbo_now

  sought_iff : (t : ℤ) → IsSought now t ↔ (is_sought t next (limbo_of next) ≡ true)
  sought_iff t = (
    λ it. (either_is (is_wanted t next) (is_running t (limbo_of next))).1 (⊎_elim (λ one. inl ((wanted_iff t).0 one)) (λ one. inr (sym (running_now t) ∙ one)) it),
    λ is. ⊎_elim (λ one. inl ((wanted_iff t).1 one)) (λ one. inr (running_now t ∙ one)) ((either_is (is_wanted t next) (is_running t (limbo_of next))).0 is),
  )

  unsought : (t : ℤ) → (IsSought now t → ⊥) → is_sought t next (limbo_of next) ≡ false
  unsought t never = not_true (is_sought t next (limbo_of next)) (λ is. never ((sought_iff t).1 is))

  -- every wanted target has a row
  have_rows : (t : ℤ) → IsWanted mid.listeners t → HasTargetRow mid.store.state.rows t
  have_rows t it =
      subst (λ (x : State). HasTargetRow x.rows t) (sym stands.state)
      (subst (λ (o : Option ℤ). IfSome o (HasTargetRow later.rows)) (sym (stands.targets it.0) ∙ it.1) (stands.rows it.0))

  -- the documents in limbo
  in_limbo : LimboBehind new.root s past e settled true wanted
  in_limbo =
      subst (λ (root : Root). LimboBehind root s past e settled true wanted) (sym kept.root)
      (shown_in_limbo mid.root later (stance_of next) (λ id. listener id next) mid.limbo wanted stands.quiet stands.unshown settles.are)

  -- ---- what the client stands for, with such lines behind it

  module _ (asked : List Line) (no_target : (id : ℕ) (was : Option ℤ) → listened_in id asked was ≡ was) (no_begin : (ids : List ℕ) → begun_in asked ids ≡ ids)
      (unraised : (id : ℕ) → raised_in id asked ≡ None) (unrefused : (id : ℕ) → is_refused_in id asked ≡ false) (unsent : (g : Steps) → sent_in asked g ≡ g)
      (watches : Watches new.watch (answered_next s past e (with_lines turn asked)) (limbo_of next)) where
    abbrev behind : Past
    behind = answered_next s past e (with_lines turn asked)

    abbrev lines : List Line
    lines = settled.lines

    same_listener : (id : ℕ) → listener id behind ≡ listener id next
    same_listener id =
        ap (λ o. told o (unless_refused (is_refused_in id (lines ++ asked)) (asked_of id e (listener id past)))) (raised_before id lines asked (unraised id))
        ∙ ap (λ b. told (raised_in id lines) (unless_refused b (asked_of id e (listener id past)))) (refused_behind id lines asked (unrefused id))

    silent_all : (g : Steps) → sent_in (lines ++ asked) g ≡ g
    silent_all g = sent_behind lines asked g ∙ ap (sent_in asked) (settled_silent mid.root s past e settled is_settled g) ∙ unsent g

    same_steps : steps_of next ≡ steps_of behind
    same_steps = settled_silent mid.root s past e settled is_settled (steps_by e settled.refusal (steps_of past)) ∙ sym (silent_all (steps_by e settled.refusal (steps_of past)))

    limbo_same : (id : ℕ) → limbo_in mid id ≡ limbo_in new id
    limbo_same id = sym (ap (λ (l : Listens). limbo_at l id) kept.limbo ∙ settles.same id)

    stands_asked : StandsFor new later behind
    stands_asked = record {
      state = ap (λ (x : Store). x.state) kept.store ∙ stands.state;
      listeners = λ id. ap (λ (t : Table). viewed t id) kept.listeners ∙ stands.listeners id ∙ sym (same_listener id);
      targets = λ id. ap (λ (t : Table). target_of t id) kept.listeners ∙ stands.targets id ∙ sym (targets_behind past s e turn asked no_target no_begin id);
      rows = λ id. subst (λ (o : Option ℤ). IfSome o (HasTargetRow later.rows)) (sym (targets_behind past s e turn asked no_target no_begin id)) (stands.rows id);
      quiet = λ id.
          subst (λ (ks : List Key). IfSome (listener id behind) (IsQuiet new.root later (stance_of behind id) ks)) (limbo_same id)
          (subst (λ (k : Stance). IfSome (listener id behind) (IsQuiet new.root later k (limbo_in mid id))) (sym (stance_behind past s e turn asked no_target no_begin id))
          (subst (λ (v : Option Viewed). IfSome v (IsQuiet new.root later (stance_of next id) (limbo_in mid id))) (sym (same_listener id))
          (subst (λ (root : Root). IfSome (listener id next) (IsQuiet root later (stance_of next id) (limbo_in mid id))) (sym kept.root) (stands.quiet id))));
      unshown = λ id none. sym (limbo_same id) ∙ stands.unshown id (sym (same_listener id) ∙ none);
      limbo_is = ap (λ (l : Listens). l.limbo) kept.limbo ∙ limbo_now;
      sound = update_sound wanted going settles.are.ascending stands.sound;
      watch = watches;
      writes = subst (λ (w : WriteStream). StandsOn w (steps_of behind)) (sym kept.writes) (subst (StandsOn mid.writes) same_steps stands.writes);
      pending = subst (λ (g : Steps). outstanding g ≤ length later.batches) same_steps stands.pending;
    }

    hands_with : AsksIf (is_watched next) later next (resets_by e settled.commit past) asked → AllZip (IsShown new) after_them (lines ++ asked) → HandsAsked s past e settled after_them new
    hands_with asks all = record {
      is_settled = subst (λ (root : Root). IsSettled root s past e settled) (sym kept.root) is_settled;
      heard = heard;
      limbo = wanted;
      in_limbo = in_limbo;
      asked = asked;
      asks = asks;
      silent = silent_all;
      stands = stands_asked;
      shown = all;
    }

  shown_before : AllZip (IsShown new) before settled.lines
  shown_before = all_asked mid new limbo kept before settled.lines (settled_plain mid.root s past e settled is_settled) shown

  -- ---- where the stream is closed

  hands_closed : is_watched next ≡ false → new.watch.aggregator ≡ mid.watch.aggregator → after_them ≡ before → HandsAsked s past e settled after_them new
  hands_closed closed same none = hands_with [] (λ id was. refl) (λ ids. refl) (λ id. refl) (λ id. refl) (λ g. refl) watches
      (subst (λ (b : Bool). AsksIf b later next (resets_by e settled.commit past) []) (sym closed) refl)
      (subst (AllZip (IsShown new) after_them) (sym (append-nil settled.lines)) (subst (λ (os : List Out). AllZip (IsShown new) os settled.lines) (sym none) shown_before))
    where
      calls_same : calls_of (answered_next s past e (with_lines turn [])) ≡ calls_of next
      calls_same = calls_behind past s e turn [] (λ id was. refl) (λ ids. refl)

      watches : Watches new.watch (answered_next s past e (with_lines turn [])) (limbo_of next)
      watches = record {
        opening = kept.opening ∙ stands.watch.opening;
        calls = subst (AggregatorStandsFor new.watch.aggregator) (sym calls_same) (subst (λ (a : Aggregator). AggregatorStandsFor a (calls_of next)) (sym same) stands.watch.calls);
        online = kept.online ∙ stands.watch.online;
        current = λ x. ap (λ (c : CurrentTargets). standing_in c.targets.items x) kept.current ∙ stands.watch.current x ∙ ap (option_map current_with) (sym (current_behind past s e turn [] (λ id was. refl) (λ ids. refl) x));
        spelled = subst AreSpelledCalls (sym calls_same) stands.watch.spelled;
        due = λ opened x. absurd (true≢false (sym opened ∙ closed));
      }

  -- ---- where it is open

  -- the changes of the listens that go on
  changes : changed ≡ ended wanted going.running ++ ids_of (started wanted going)
  changes = settles.changed_are ∙ ap (λ (l : Limbo). ended wanted l.running ++ ids_of (started wanted l)) stands.limbo_is

  -- a listen that didn't change runs as before
  runs_still : (t : ℤ) → (Contains changed t → ⊥) → is_running t (limbo_of next) ≡ is_running t going
  runs_still t never = ap is_some (running_stays wanted going t
      (λ there. never (subst (λ (l : List ℤ). Contains l t) (sym changes) (Contains-append_left (ended wanted going.running) (ids_of (started wanted going)) t there)))
      (λ there. never (subst (λ (l : List ℤ). Contains l t) (sym changes) (Contains-append_right (ended wanted going.running) (ids_of (started wanted going)) t there))))

  -- whether a request is due is kept as it is read off the past, but for what changed
  due_now : (d : Due) (t : ℤ) → (Contains changed t → ⊥) → IsDue next going d t → IsDueIn now d t
  due_now Nothing t never is = is
  due_now (One id) t never is = is
  due_now (Resets ids) t never is = is
  due_now due_all t never is = ⊎_elim (λ one. inl ((wanted_iff t).1 one)) (λ one. inr (running_now t ∙ runs_still t never ∙ one)) ((either_is (is_wanted t next) (is_running t going)).0 is)

  module _ (opened : is_watched next ≡ true) (resets : ResetsAsDue past e settled.commit mid) (asks : AsksFor now new changed before after_them) where
    abbrev r : Requests now new asks.targets (resets_of mid.watch.due) before after_them
    r = asks.requests

    abbrev h : Calls
    h = calls_of next

    removed : Picked (IsToRemove now (resets_of mid.watch.due) h) asks.targets r.removed
    removed = r.are_removed h stands.watch.calls

    added : Picked (IsToAdd now (unasked_all r.removed h)) asks.targets r.added
    added = r.are_added h stands.watch.calls

    listens : Picked (IsListenToAdd now (unasked_all r.removed h)) asks.targets r.listens
    listens = r.are_listens h stands.watch.calls

    -- where no request is due, what is asked is sought
    due_or : (t : ℤ) → Contains asks.targets t ⊎ (is_asked_in t h ≡ is_sought t next (limbo_of next))
    due_or t = ⊎_elim
        (λ one. inl ((asks.are_due.each t).1 (inr one)))
        (λ never. ⊎_elim
        (λ due. inl ((asks.are_due.each t).1 (inl (due_now mid.watch.due t never due))))
        (λ same. inr (same ∙ ap (λ b. is_wanted t next || b) (sym (runs_still t never))))
        (stands.watch.due opened t))
        (among changed t)

    is_removed : (t : ℤ) → Contains r.removed t ↔ IsRemoved next (resets_by e settled.commit past) t
    is_removed t = (down, up)
      where
        down : Contains r.removed t → IsRemoved next (resets_by e settled.commit past) t
        down there =
            let it = ((removed.each t).0 there).1 in
            record { asking = it.asking; why = ⊎_elim (λ never. inl (unsought t never)) (λ is. inr ((resets t).1 is)) it.why }

        up : IsRemoved next (resets_by e settled.commit past) t → Contains r.removed t
        up it = (removed.each t).1 (is_due, record { asking = it.asking; why = ⊎_elim (λ not_so. inl (λ sought. true≢false (sym ((sought_iff t).0 sought) ∙ not_so))) (λ is. inr ((resets t).0 is)) it.why })
          where
            is_due : Contains asks.targets t
            is_due = ⊎_elim (λ there. there)
                (λ same. ⊎_elim
                (λ not_so. absurd (true≢false (sym it.asking ∙ same ∙ not_so)))
                (λ is. (asks.are_due.each t).1 (inl (reset_due now mid.watch.due t ((resets t).0 is))))
                it.why)
                (due_or t)

    -- what is sought, but not asked or was removed, is due
    to_add : (t : ℤ) → is_sought t next (limbo_of next) ≡ true → (is_asked_in t h ≡ false) ⊎ Contains r.removed t → Contains asks.targets t
    to_add t sought why = ⊎_elim
        (λ not_so. ⊎_elim (λ there. there) (λ same. absurd (true≢false (sym sought ∙ sym same ∙ not_so))) (due_or t))
        (λ there. ((removed.each t).0 there).0)
        why

    is_added : (t : ℤ) → Contains r.added t ↔ IsAdded next r.removed t
    is_added t = (
      λ there. let it = ((added.each t).0 there).1 in record { wanted = (wanted_iff t).0 it.wanted; why = (asked_removed t r.removed h).0 it.unasking },
      λ it. (added.each t).1 (
        to_add t ((either_is (is_wanted t next) (is_running t (limbo_of next))).1 (inl it.wanted)) it.why,
        record { wanted = (wanted_iff t).1 it.wanted; unasking = (asked_removed t r.removed h).1 it.why },
      ),
    )

    is_listen : (t : ℤ) → Contains r.listens t ↔ IsListenAdded next r.removed t
    is_listen t = (
      λ there. let it = ((listens.each t).0 there).1 in record { running = sym (running_now t) ∙ it.running; why = (asked_removed t r.removed h).0 it.unasking },
      λ it. (listens.each t).1 (
        to_add t ((either_is (is_wanted t next) (is_running t (limbo_of next))).1 (inr it.running)) it.why,
        record { running = running_now t ∙ it.running; unasking = (asked_removed t r.removed h).1 it.why },
      ),
    )

    rows_are : AllZip (IsAddLine later) r.added r.lines
    rows_are = subst (λ (x : State). AllZip (IsAddLine x) r.added r.lines) stands.state r.are_lines

    keys_are : AllZip (IsListenLine (limbo_of next)) r.listens r.listen_lines
    keys_are = subst (λ (l : Limbo). AllZip (IsListenLine l) r.listens r.listen_lines) limbo_now r.are_listen_lines

    -- the adds
    abbrev ids : List ℤ
    ids = r.added ++ r.listens

    abbrev adds : List Line
    adds = r.lines ++ r.listen_lines

    adds_are : AllZip IsAdd ids adds
    adds_are = all_adds later (limbo_of next) r.added r.listens r.lines r.listen_lines rows_are keys_are

    abbrev asked : List Line
    asked = each remove r.removed ++ adds

    asks_are : Asks later next (resets_by e settled.commit past) asked
    asks_are = record {
      removed = r.removed;
      added = r.added;
      listens = r.listens;
      are_removed = record { ascending = removed.ascending; each = is_removed };
      are_added = record { ascending = added.ascending; each = is_added };
      are_listens = record { ascending = listens.ascending; each = is_listen };
      adds = r.lines;
      rows = rows_are;
      listen_adds = r.listen_lines;
      keys = keys_are;
      is = sym (append_assoc (each remove r.removed) r.lines r.listen_lines);
    }

    -- ---- what the client stands for then

    no_target : (id : ℕ) (was : Option ℤ) → listened_in id asked was ≡ was
    no_target id was = fold_asked (listened_by id) (λ b t. refl) (λ b t row. refl) r.removed ids adds was adds_are

    no_begin : (those : List ℕ) → begun_in asked those ≡ those
    no_begin those = fold_asked begun_by (λ b t. refl) (λ b t row. refl) r.removed ids adds those adds_are

    calls_then : calls_of (answered_next s past e (with_lines turn asked)) ≡ requested_in adds (unasked_all r.removed h)
    calls_then = calls_behind past s e turn asked no_target no_begin ∙ fold-append requested_by h (each remove r.removed) adds ∙ ap (requested_in adds) (removes_requested r.removed h)

    -- just the sought targets are asked now
    asked_now : (t : ℤ) → is_asked_in t (calls_of (answered_next s past e (with_lines turn asked))) ≡ is_sought t next (limbo_of next)
    asked_now t = ap (is_asked_in t) calls_then ∙ same_truth (is_asked_in t (requested_in adds (unasked_all r.removed h))) (is_sought t next (limbo_of next)) down up
      where
        adds_iff : (is_asked_in t (requested_in adds (unasked_all r.removed h)) ≡ true) ↔ ((is_asked_in t (unasked_all r.removed h) ≡ true) ⊎ Contains ids t)
        adds_iff = asked_added t ids adds (unasked_all r.removed h) adds_are

        is_sought_if : (is_wanted t next ≡ true) ⊎ (is_running t (limbo_of next) ≡ true) → is_sought t next (limbo_of next) ≡ true
        is_sought_if = (either_is (is_wanted t next) (is_running t (limbo_of next))).1

        still : is_asked_in t (unasked_all r.removed h) ≡ true → is_sought t next (limbo_of next) ≡ true
        still asking = by (false_or_true (is_sought t next (limbo_of next))) (false_or_true (is_asked_in t h))
          where
            by : (is_sought t next (limbo_of next) ≡ false) ⊎ (is_sought t next (limbo_of next) ≡ true) → (is_asked_in t h ≡ false) ⊎ (is_asked_in t h ≡ true) → is_sought t next (limbo_of next) ≡ true
            by (inr sought) was = sought
            by (inl not_so) (inl was) = absurd (true≢false (sym asking ∙ (asked_removed t r.removed h).1 (inl was)))
            by (inl not_so) (inr was) = absurd (true≢false (sym asking ∙ (asked_removed t r.removed h).1 (inr ((is_removed t).1 (record { asking = was; why = inl not_so })))))

        down : is_asked_in t (requested_in adds (unasked_all r.removed h)) ≡ true → is_sought t next (limbo_of next) ≡ true
        down is = ⊎_elim still
            (λ there. ⊎_elim (λ one. is_sought_if (inl ((is_added t).0 one).wanted)) (λ one. is_sought_if (inr ((is_listen t).0 one).running)) (Contains-append_cases r.added r.listens t there))
            (adds_iff.0 is)

        up : is_sought t next (limbo_of next) ≡ true → is_asked_in t (requested_in adds (unasked_all r.removed h)) ≡ true
        up sought = adds_iff.1 (⊎_elim
            (λ not_so. inr (⊎_elim
            (λ one. Contains-append_left r.added r.listens t ((is_added t).1 (record { wanted = one; why = (asked_removed t r.removed h).0 not_so })))
            (λ one. Contains-append_right r.added r.listens t ((is_listen t).1 (record { running = one; why = (asked_removed t r.removed h).0 not_so })))
            ((either_is (is_wanted t next) (is_running t (limbo_of next))).0 sought)))
            inl
            (false_or_true (is_asked_in t (unasked_all r.removed h))))

    unraised : (id : ℕ) → raised_in id asked ≡ None
    unraised id = raised_before id (each remove r.removed) adds (raised_adds id ids adds adds_are) ∙ raised_removes id r.removed

    unrefused : (id : ℕ) → is_refused_in id asked ≡ false
    unrefused id = refused_behind id (each remove r.removed) adds (refused_adds id ids adds adds_are) ∙ refused_removes id r.removed

    unsent : (g : Steps) → sent_in asked g ≡ g
    unsent g = sent_behind (each remove r.removed) adds g ∙ ap (sent_in adds) (removes_unsent r.removed g) ∙ adds_unsent ids adds g adds_are

    requests_stand : AggregatorStandsFor new.watch.aggregator (requested_in asked h)
    requests_stand = subst (λ (ls : List Line). AggregatorStandsFor new.watch.aggregator (requested_in ls h)) (append_assoc (each remove r.removed) r.lines r.listen_lines) (r.calls h stands.watch.calls)

    watches : Watches new.watch (answered_next s past e (with_lines turn asked)) (limbo_of next)
    watches = record {
      opening = kept.opening ∙ stands.watch.opening;
      calls = subst (AggregatorStandsFor new.watch.aggregator) (sym (calls_behind past s e turn asked no_target no_begin)) requests_stand;
      online = kept.online ∙ stands.watch.online;
      current = λ x. ap (λ (c : CurrentTargets). standing_in c.targets.items x) kept.current ∙ stands.watch.current x ∙ ap (option_map current_with) (sym (current_behind past s e turn asked no_target no_begin x));
      spelled = subst AreSpelledCalls (sym (calls_behind past s e turn asked no_target no_begin)) (spelled_requested asked h stands.watch.spelled);
      due = λ so x. inr (asked_now x ∙ sym (sought_behind past s e turn asked no_target no_begin x (limbo_of next)));
    }

    outs_are : after_them ≡ before ++ (each out.RemoveTarget r.removed ++ (each out.AddTarget r.added ++ each out.AddLimboTarget r.listens))
    outs_are =
        r.outs ∙ ap (λ (os : List Out). os ++ each out.AddLimboTarget r.listens) (append_assoc before (each out.RemoveTarget r.removed) (each out.AddTarget r.added))
        ∙ append_assoc before (each out.RemoveTarget r.removed ++ each out.AddTarget r.added) (each out.AddLimboTarget r.listens)
        ∙ ap (λ (os : List Out). before ++ os) (append_assoc (each out.RemoveTarget r.removed) (each out.AddTarget r.added) (each out.AddLimboTarget r.listens))

    shown_all : AllZip (IsShown new) after_them (settled.lines ++ asked)
    shown_all =
        subst (λ (os : List Out). AllZip (IsShown new) os (settled.lines ++ asked)) (sym outs_are)
        (zip_append (IsShown new) before settled.lines (each out.RemoveTarget r.removed ++ (each out.AddTarget r.added ++ each out.AddLimboTarget r.listens)) asked shown_before
        (zip_append (IsShown new) (each out.RemoveTarget r.removed) (each remove r.removed) (each out.AddTarget r.added ++ each out.AddLimboTarget r.listens) adds (removes_shown new r.removed)
        (zip_append (IsShown new) (each out.AddTarget r.added) r.lines (each out.AddLimboTarget r.listens) r.listen_lines
        (adds_shown new r.added r.lines (subst (λ (x : Store). AllZip (IsAddLine x.state) r.added r.lines) (sym kept.store) r.are_lines))
        (listens_shown new r.listens r.listen_lines (subst (λ (l : Listens). AllZip (IsListenLine l.limbo) r.listens r.listen_lines) (sym kept.limbo) r.are_listen_lines)))))

    hands_open : HandsAsked s past e settled after_them new
    hands_open = hands_with asked no_target no_begin unraised unrefused unsent watches (subst (λ (b : Bool). AsksIf b later next (resets_by e settled.commit past) asked) (sym opened) asks_are) shown_all

-- the documents in limbo are settled, and the requests that were due went out
hands_requests : (mid new : Kept) (s : State) (past : Past) (e : Event) (settled : Turn) (before after_them : List Out) → IsSettled mid.root s past e settled → is_heard settled.refusal ≡ true
    → StandsAfter mid (after s settled.commit) (record { state = s; event = e; turn = settled }) past (is_heard settled.refusal) → AllZip (IsShown mid) before settled.lines
    → (is_watched (answered_next s past e settled) ≡ true → ResetsAsDue past e settled.commit mid) → SettlesLimbo mid new before after_them → HandsAsked s past e settled after_them new
hands_requests mid new s past e settled before after_them is_settled heard stands shown resets it = by mid.watch.is_open refl
  where
    stands_with : StandsAfter mid (after s settled.commit) (record { state = s; event = e; turn = settled }) past true
    stands_with = subst (StandsAfter mid (after s settled.commit) (record { state = s; event = e; turn = settled }) past) heard stands

    by : (b : Bool) → mid.watch.is_open ≡ b → HandsAsked s past e settled after_them new
    by true is =
        hands_open mid new it.limbo s past e settled it.changed before after_them is_settled heard stands_with shown it.settles it.rest it.idle (sym stands_with.watch.opening ∙ is) (resets (sym stands_with.watch.opening ∙ is))
        (it.asks is (have_rows mid new it.limbo s past e settled it.changed before after_them is_settled heard stands_with shown it.settles it.rest it.idle))
    by false is =
        hands_closed mid new it.limbo s past e settled it.changed before after_them is_settled heard stands_with shown it.settles it.rest it.idle (sym stands_with.watch.opening ∙ is) (it.closed is).0 (it.closed is).1

-- behind an event that is done
pub hands_asked : {mid new : Kept} {s : State} {past : Past} {e : Event} {outs : Vec Out Global} {after_them : List Out} (it : HandsSettled s past e (Done outs) mid) → SettlesLimbo mid new outs.items after_them → HandsAsked s past e it.turn after_them new
hands_asked {mid} {new} {s} {past} {e} {outs} {after_them} it settles =
    hands_requests mid new s past e it.turn outs.items after_them it.is_settled (ap is_heard it.outcome.0) it.stands it.outcome.1 (λ opened. it.resets) settles

-- and behind one that is heard though it is refused
pub hands_asked_still : {mid new : Kept} {s : State} {past : Past} {e : Event} {outs : Vec Out Global} {after_them : List Out} (refusal : Refusal) → is_heard (Some refusal) ≡ true → (it : HandsSettled s past e (Refused refusal outs) mid)
    → SettlesLimbo mid new outs.items after_them → HandsAsked s past e it.turn after_them new
hands_asked_still {mid} {new} {s} {past} {e} {outs} {after_them} refusal heard it settles =
    hands_requests mid new s past e it.turn outs.items after_them it.is_settled (ap is_heard it.outcome.0 ∙ heard) it.stands it.outcome.1 resets settles
  where
    resets : is_watched (answered_next s past e it.turn) ≡ true → ResetsAsDue past e it.turn.commit mid
    resets opened t = (λ is. absurd (true≢false (sym is ∙ none)), λ there. absurd (nothing there))
      where
        none : resets_by e it.turn.commit past t ≡ false
        none = no_reset e refusal it.turn.commit past (is_watched past) (ap (λ (r : Option Refusal). open_by (step_by e r) (is_watched past)) (sym it.outcome.0) ∙ opened) t

        nothing : Contains (resets_of mid.watch.due) t → ⊥
        nothing there = let in_none = subst (λ (d : Due). Contains (resets_of d) t) it.idle there in omega (arith, in_none.1)
