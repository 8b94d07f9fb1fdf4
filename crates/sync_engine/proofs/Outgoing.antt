-- how the requests on the stream of listeners go out
use Rattle.std.proofs.Common.{◌≡◌, ◌↔◌, ⊎_elim, inl, inr, ℕ, ◌+◌, ◌<◌, ℤ, ◌<ℤ◌, Bool, true, false, not, IsTrue, List, [], ◌∷◌, ◌++◌, map as each, take, length, get_or, Option, Some, None, is_some, refl, sym, ap, subst, ◌∙◌}
use Rattle.std.specs.List.{All, AllPairs, AllZip, Contains}
use Rattle.std.proofs.lemmas.Bool.{false≢true, true≢false}
use Rattle.std.proofs.lemmas.List.{append_assoc, map-append}
use Rattle.std.proofs.lemmas.List.Elements.{All-get_or, All-weaker, Contains-append_cases, Contains-append_left, Contains-append_right}
use Rattle.std.proofs.lemmas.List.Sums.{fold-append}
use Rattle.limbo_listens.proofs.Laws.{ids_of_running}
use Rattle.limbo_listens.specs.Listens.{Listens, Settles}
use Rattle.limbo_resolver.specs.Limbo.{Limbo, ids_of, key_in}
use Rattle.listen_protocol.specs.Calls.{Calls, Key, asked, unasked}
use Rattle.listen_protocol.specs.Transcript.{is_asked_in}
use Rattle.listeners.specs.Table.{IsWanted, Table}
use Rattle.local_store.specs.State.{State}
use Rattle.local_store.specs.Store.{Store}
use Rattle.queries.specs.declared.target.Target.TheVariants.{Document as a_document}
use Rattle.target_cache.specs.Cache.{IsRow, blank}
use Rattle.target_cache.specs.declared.row.Row.{Row}
use Rattle.watch_aggregator.specs.declared.aggregator.Aggregator.{Aggregator}
use Rattle.watch_aggregator.specs.Standing.{StandsFor as AggregatorStandsFor, Takes}
use Rattle.client_turns.specs.Asking.{IsAddLine, IsListenLine}
use Rattle.client_turns.specs.LimboListens.{is_running}
use Rattle.client_turns.specs.Lines.{Line, add as add_line, remove as remove_line}
use Rattle.sync_engine.specs.Requesting.{Adds, AddsBy, AddsListens, AllRun, AllWanted, AreDue, AsksFor, CallsAre, HaveTargetRows, IsDueIn, IsListenToAdd, IsSought, IsToAdd, IsToRemove, KeepsButCalls, KeepsDue, Picked, Removes, Requests, SettlesLimbo, with_listens}
use Rattle.client_turns.specs.Watching.{unasked_all, held_keys, requested_by, requested_in, wanted_document}
use Rattle.client_turns.specs.Settling.{HasTargetRow}
use Rattle.sync_engine.specs.Standing.{Kept}
use Rattle.sync_engine.specs.Stream.{resets_of}
use Rattle.sync_engine.specs.declared.out.Out.{Out}
use Rattle.sync_engine.specs.declared.out.Out.TheVariants.{AddLimboTarget, AddTarget, RemoveTarget}
use Rattle.sync_engine.specs.declared.watch_stream.Due.{Due}
use Rattle.sync_engine.specs.declared.watch_stream.Due.TheVariants.{Nothing, One, Resets, All as due_all}
use Rattle.sync_engine.proofs.Picking.{picked_with, taken_more}
use Rattle.client_turns.proofs.Requested.{removes_requested, zip_append}

-- ---- which targets

-- it doesn't hold where it does not
unless : {P : Type 0} (p : Bool) → (IsTrue p ↔ P) → IsTrue (not p) ↔ (P → ⊥)
unless true tells = (λ no. absurd (false≢true no), λ never. absurd (never (tells.0 refl)))
unless false tells = (λ yes w. absurd (false≢true (tells.1 w)), λ never. refl)

-- what is asked of a target, by what the client keeps
asked_by : {k client : Kept} (t at : ℤ) (asking : Bool) → k ≡ client → at ≡ t → CallsAre k (λ h. asking ≡ is_asked_in at h) → asking ≡ true → CallsAre client (λ h. is_asked_in t h ≡ true)
asked_by {k} {client} t at asking whole back are is = subst (λ (c : Kept). CallsAre c (λ h. is_asked_in t h ≡ true)) whole
    (subst (λ (z : ℤ). CallsAre k (λ h. is_asked_in z h ≡ true)) back (λ h stands. sym (are h stands) ∙ is))

-- an asked target that is reset is removed
pub removed_reset : {k client : Kept} (resets : List ℤ) (t at : ℤ) (asking reset : Bool) → k ≡ client → at ≡ t → CallsAre k (λ h. asking ≡ is_asked_in at h) → asking ≡ true → (IsTrue reset ↔ Contains resets t) → reset ≡ true
    → CallsAre client (λ h. IsTrue reset ↔ IsToRemove client resets h t)
removed_reset resets t at asking reset whole back are is among so = λ h stands. (λ yes. record { asking = asked_by t at asking whole back are is h stands; why = inr (among.0 so) }, λ it. so)

-- and one that isn't where it isn't sought any more
pub removed_unless : {k client : Kept} (resets : List ℤ) (t at : ℤ) (asking reset sought : Bool) → k ≡ client → at ≡ t → CallsAre k (λ h. asking ≡ is_asked_in at h) → asking ≡ true → (IsTrue reset ↔ Contains resets t) → reset ≡ false
    → (IsTrue sought ↔ IsSought client t) → CallsAre client (λ h. IsTrue (not sought) ↔ IsToRemove client resets h t)
removed_unless resets t at asking reset sought whole back are is among so seeks = λ h stands. (
  λ no. record { asking = asked_by t at asking whole back are is h stands; why = inl ((unless sought seeks).0 no) },
  λ it. ⊎_elim (unless sought seeks).1 (λ there. absurd (true≢false (sym (among.1 there) ∙ so))) it.why,
)

-- ---- which ids are due

-- all sought targets are due
pub all_sought : {k client : Kept} (wanted running all : List ℤ) → k ≡ client → ((t : ℤ) → Contains wanted t ↔ IsWanted k.listeners t) → running ≡ ids_of k.limbo.limbo.running → all ≡ wanted ++ running → (t : ℤ) → Contains all t ↔ IsSought client t
all_sought {k} {client} wanted running all whole members run is t = subst (λ (c : Kept). Contains all t ↔ IsSought c t) whole (subst (λ (l : List ℤ). Contains l t ↔ IsSought k t) (sym all_are) (
  λ there. ⊎_elim (λ one. inl ((members t).0 one)) (λ one. inr ((ids_of_running k.limbo.limbo t).0 one)) (Contains-append_cases wanted (ids_of k.limbo.limbo.running) t there),
  λ it. ⊎_elim (λ one. Contains-append_left wanted (ids_of k.limbo.limbo.running) t ((members t).1 one)) (λ one. Contains-append_right wanted (ids_of k.limbo.limbo.running) t ((ids_of_running k.limbo.limbo t).1 one)) it,
))
  where
    all_are : all ≡ wanted ++ ids_of k.limbo.limbo.running
    all_are = is ∙ ap (λ (l : List ℤ). wanted ++ l) run

-- and those that changed
pub with_changed : {client : Kept} {due : Due} (ids changed all those : List ℤ) → ((t : ℤ) → Contains ids t ↔ IsDueIn client due t) → all ≡ ids ++ changed → AllPairs ◌<ℤ◌ those → ((t : ℤ) → Contains those t ↔ Contains all t) → AreDue client due changed those
with_changed {client} {due} ids changed all those are is ascends members = record {
  ascending = ascends;
  each = λ t. (
    λ there. ⊎_elim (λ one. inl ((are t).0 one)) inr (Contains-append_cases ids changed t (subst (λ (l : List ℤ). Contains l t) is ((members t).0 there))),
    λ it. (members t).1 (subst (λ (l : List ℤ). Contains l t) (sym is) (⊎_elim (λ one. Contains-append_left ids changed t ((are t).1 one)) (Contains-append_right ids changed t) it)),
  );
}

-- ---- the removes

-- what is kept twice is kept
pub due_kept_then : {old now new : Kept} → KeepsDue old now → KeepsDue now new → KeepsDue old new
due_kept_then first second = record {
  rest = record {
    root = second.rest.root ∙ first.rest.root;
    store = second.rest.store ∙ first.rest.store;
    listeners = second.rest.listeners ∙ first.rest.listeners;
    limbo = second.rest.limbo ∙ first.rest.limbo;
    writes = second.rest.writes ∙ first.rest.writes;
    spent = second.rest.spent ∙ first.rest.spent;
    opening = second.rest.opening ∙ first.rest.opening;
    online = second.rest.online ∙ first.rest.online;
    current = second.rest.current ∙ first.rest.current;
  };
  due = second.due ∙ first.due;
}

-- one line more behind those of some targets
each_more : (f : ℤ → Out) (targets : List ℤ) (x : ℤ) (before : List Out) {outs after : List Out} → outs ≡ before ++ each f targets → after ≡ outs ++ f x ∷ [] → after ≡ before ++ each f (targets ++ x ∷ [])
each_more f targets x before {outs} was is =
    is ∙ ap (λ (o : List Out). o ++ f x ∷ []) was ∙ append_assoc before (each f targets) (f x ∷ []) ∙ ap (λ (o : List Out). before ++ o) (sym (map-append f targets (x ∷ [])))

-- the last remove request is the newest
unasked_push : (targets : List ℤ) (x : ℤ) (h : Calls) → unasked_all (targets ++ x ∷ []) h ≡ unasked x ∷ unasked_all targets h
unasked_push [] x h = refl
unasked_push (y ∷ targets) x h = unasked_push targets x (unasked y ∷ h)

-- one remove more
pub removes_more : {old now new : Kept} {before outs after : List Out} (targets : List ℤ) (n : ℕ) (x : ℤ) → n < length targets → x ≡ get_or targets n x → Removes old now (take n targets) before outs
    → Takes now.watch.aggregator new.watch.aggregator (unasked x) → after ≡ outs ++ RemoveTarget x ∷ [] → Removes old new (take (n + 1) targets) before after
removes_more {old} {now} {new} {before} {outs} {after} targets n x inside at it taken is =
    subst (λ (l : List ℤ). Removes old new l before after) (sym (taken_more targets n x inside at)) (record {
      outs = each_more RemoveTarget (take n targets) x before it.outs is;
      calls = λ h stands. subst (AggregatorStandsFor new.watch.aggregator) (sym (unasked_push (take n targets) x h)) (taken (unasked_all (take n targets) h) (it.calls h stands));
    })

-- ---- the adds

-- the add goes out as the row stands
pub adds_row : {k client new : Kept} {outs after : List Out} (t at : ℤ) (rows : List Row) (row : Row) (keys : List Key) (document : Option Key) → k ≡ client → at ≡ t → rows ≡ k.store.state.rows → IsRow rows at row
    → keys ≡ held_keys row.held → document ≡ wanted_document row.target → Takes k.watch.aggregator new.watch.aggregator (asked at keys document) → after ≡ outs ++ AddTarget at ∷ [] → Adds client new (t ∷ []) outs after
adds_row {k} {client} {new} {outs} {after} t at rows row keys document whole back same of_id keys_are document_is taken is =
    subst (λ (c : Kept). Adds c new (t ∷ []) outs after) whole
    (subst (λ (z : ℤ). Adds k new (z ∷ []) outs after) back (record {
      lines = add_line at row ∷ [];
      are_lines = (record { row = row; of_id = subst (λ (l : List Row). IsRow l at row) same of_id; is = refl }, tt);
      outs = is;
      calls = λ h stands. subst (λ (l : List Key). AggregatorStandsFor new.watch.aggregator (asked at l (wanted_document row.target) ∷ h)) keys_are
          (subst (λ (d : Option Key). AggregatorStandsFor new.watch.aggregator (asked at keys d ∷ h)) document_is (taken h stands));
    }))

-- the target has no row
pub adds_nothing : {k client new : Kept} {outs after : List Out} (t at : ℤ) (rows : List Row) → k ≡ client → at ≡ t → rows ≡ k.store.state.rows → ((row : Row) → IsRow rows at row → ⊥)
    → HasTargetRow client.store.state.rows t → Adds client new (t ∷ []) outs after
adds_nothing {k} {client} t at rows whole back same none has =
    let rows_are : client.store.state.rows ≡ rows = sym (same ∙ ap (λ (c : Kept). c.store.state.rows) whole) in
    absurd (none has.0 (subst (λ (z : ℤ). IsRow rows z has.0) (sym back) (subst (λ (l : List Row). IsRow l t has.0) rows_are has.1)))

-- the add of the listen of a document in limbo goes out: it goes on from nothing
pub adds_listen : {k client new : Kept} {outs after : List Out} (t at : ℤ) (key document : Key) (keys : List Key) → k ≡ client → at ≡ t → Some key ≡ key_in k.limbo.limbo.running at → document ≡ key → keys ≡ []
    → Takes k.watch.aggregator new.watch.aggregator (asked at keys (Some document)) → after ≡ outs ++ AddLimboTarget at ∷ [] → AddsListens client new (t ∷ []) outs after
adds_listen {k} {client} {new} {outs} {after} t at key document keys whole back of_id copied none taken is =
    subst (λ (c : Kept). AddsListens c new (t ∷ []) outs after) whole
    (subst (λ (z : ℤ). AddsListens k new (z ∷ []) outs after) back (record {
      lines = add_line at (blank (a_document key)) ∷ [];
      are_lines = (record { key = key; of_id = sym of_id; is = refl }, tt);
      outs = is;
      calls = λ h stands. subst (λ (l : List Key). AggregatorStandsFor new.watch.aggregator (asked at l (Some key) ∷ h)) none
          (subst (λ (d : Key). AggregatorStandsFor new.watch.aggregator (asked at keys (Some d) ∷ h)) copied (taken h stands));
    }))

-- no listen runs under the id
pub adds_no_listen : {k client new : Kept} {outs after : List Out} (t at : ℤ) → k ≡ client → at ≡ t → None ≡ key_in k.limbo.limbo.running at → is_running t client.limbo.limbo ≡ true → AddsListens client new (t ∷ []) outs after
adds_no_listen {k} {client} t at whole back none runs =
    absurd (false≢true (ap is_some none ∙ ap (λ (z : ℤ). is_running z k.limbo.limbo) back ∙ ap (λ (c : Kept). is_running t c.limbo.limbo) whole ∙ runs))

-- the state and the listens stay
state_kept : {old now : Kept} → KeepsDue old now → now.store.state ≡ old.store.state
state_kept kept = ap (λ (s : Store). s.state) kept.rest.store

limbo_kept : {old now : Kept} → KeepsDue old now → now.limbo.limbo ≡ old.limbo.limbo
limbo_kept kept = ap (λ (l : Listens). l.limbo) kept.rest.limbo

-- each of the targets still has a row
pub row_kept : {old now : Kept} (targets : List ℤ) (n : ℕ) (x : ℤ) → n < length targets → x ≡ get_or targets n x → KeepsDue old now → HaveTargetRows old targets → HasTargetRow now.store.state.rows x
row_kept {old} {now} targets n x inside at kept have =
    subst (λ (s : State). HasTargetRow s.rows x) (sym (state_kept kept))
    (subst (HasTargetRow old.store.state.rows) (sym at) (All-get_or (HasTargetRow old.store.state.rows) targets n x inside have))

-- each of the listens still runs
pub run_kept : {old now : Kept} (targets : List ℤ) (n : ℕ) (x : ℤ) → n < length targets → x ≡ get_or targets n x → KeepsDue old now → AllRun old targets → is_running x now.limbo.limbo ≡ true
run_kept {old} {now} targets n x inside at kept run =
    ap (is_running x) (limbo_kept kept) ∙ ap (λ (z : ℤ). is_running z old.limbo.limbo) at ∙ All-get_or (λ (t : ℤ). is_running t old.limbo.limbo ≡ true) targets n x inside run

-- one add more
adds_one_more : {old now new : Kept} {before outs after : List Out} (is_line : ℤ → Line → Type 0) (out : ℤ → Out) (targets : List ℤ) (n : ℕ) (x : ℤ) → n < length targets → x ≡ get_or targets n x
    → AddsBy is_line out old now (take n targets) before outs → AddsBy is_line out now new (x ∷ []) outs after → AddsBy is_line out old new (take (n + 1) targets) before after
adds_one_more {old} {now} {new} {before} {outs} {after} is_line out targets n x inside at it one =
    subst (λ (l : List ℤ). AddsBy is_line out old new l before after) (sym (taken_more targets n x inside at)) (record {
      lines = it.lines ++ one.lines;
      are_lines = zip_append is_line (take n targets) it.lines (x ∷ []) one.lines it.are_lines one.are_lines;
      outs = each_more out (take n targets) x before it.outs one.outs;
      calls = λ h stands. subst (AggregatorStandsFor new.watch.aggregator) (sym (fold-append requested_by h it.lines one.lines)) (one.calls (requested_in it.lines h) (it.calls h stands));
    })

pub adds_more : {old now new : Kept} {before outs after : List Out} (targets : List ℤ) (n : ℕ) (x : ℤ) → n < length targets → x ≡ get_or targets n x → KeepsDue old now → Adds old now (take n targets) before outs
    → Adds now new (x ∷ []) outs after → Adds old new (take (n + 1) targets) before after
adds_more {old} {now} {new} {before} {outs} {after} targets n x inside at kept it one =
    adds_one_more (IsAddLine old.store.state) AddTarget targets n x inside at it (subst (λ (s : State). AddsBy (IsAddLine s) AddTarget now new (x ∷ []) outs after) (state_kept kept) one)

pub listens_more : {old now new : Kept} {before outs after : List Out} (targets : List ℤ) (n : ℕ) (x : ℤ) → n < length targets → x ≡ get_or targets n x → KeepsDue old now → AddsListens old now (take n targets) before outs
    → AddsListens now new (x ∷ []) outs after → AddsListens old new (take (n + 1) targets) before after
listens_more {old} {now} {new} {before} {outs} {after} targets n x inside at kept it one =
    adds_one_more (IsListenLine old.limbo.limbo) AddLimboTarget targets n x inside at it (subst (λ (l : Limbo). AddsBy (IsListenLine l) AddLimboTarget now new (x ∷ []) outs after) (limbo_kept kept) one)

-- ---- the removes, and then the adds

-- wanted targets have rows
pub wanted_rows : {old now : Kept} (targets : List ℤ) → KeepsDue old now → ((t : ℤ) → IsWanted old.listeners t → HasTargetRow old.store.state.rows t) → AllWanted now targets → HaveTargetRows now targets
wanted_rows {old} {now} targets kept rows wanted = All-weaker (IsWanted now.listeners) (HasTargetRow now.store.state.rows)
    (λ t it. subst (λ (s : State). HasTargetRow s.rows t) (sym (state_kept kept)) (rows t (subst (λ (l : Table). IsWanted l t) kept.rest.listeners it))) targets wanted

-- listens that run still do
pub still_run : {now next : Kept} (ids : List ℤ) → KeepsDue now next → AllRun now ids → AllRun next ids
still_run {now} {next} ids kept run = subst (λ (l : Limbo). All (λ t. is_running t l ≡ true) ids) (sym (limbo_kept kept)) run

picked_adds : {old now : Kept} {before outs : List Out} (targets removed added : List ℤ) → KeepsDue old now → Removes old now removed before outs → CallsAre now (λ h. Picked (IsToAdd now h) targets added)
    → CallsAre old (λ h. Picked (IsToAdd old (unasked_all removed h)) targets added)
picked_adds {old} {now} targets removed added kept removes are_added h stands = picked_with (IsToAdd now (unasked_all removed h)) (IsToAdd old (unasked_all removed h)) targets added
    (λ t. (
      λ it. record { wanted = subst (λ (l : Table). IsWanted l t) kept.rest.listeners it.wanted; unasking = it.unasking },
      λ it. record { wanted = subst (λ (l : Table). IsWanted l t) (sym kept.rest.listeners) it.wanted; unasking = it.unasking },
    ))
    (are_added (unasked_all removed h) (removes.calls h stands))

picked_listens : {old now : Kept} {before outs : List Out} (targets removed listens : List ℤ) → KeepsDue old now → Removes old now removed before outs → CallsAre now (λ h. Picked (IsListenToAdd now h) targets listens)
    → CallsAre old (λ h. Picked (IsListenToAdd old (unasked_all removed h)) targets listens)
picked_listens {old} {now} targets removed listens kept removes are_listens h stands = picked_with (IsListenToAdd now (unasked_all removed h)) (IsListenToAdd old (unasked_all removed h)) targets listens
    (λ t. (
      λ it. record { running = sym (ap (is_running t) (limbo_kept kept)) ∙ it.running; unasking = it.unasking },
      λ it. record { running = ap (is_running t) (limbo_kept kept) ∙ it.running; unasking = it.unasking },
    ))
    (are_listens (unasked_all removed h) (removes.calls h stands))

-- the removes went out, and then the adds
module _ {old now next new : Kept} {before outs more after : List Out} (targets resets removed added listens : List ℤ) where
  pub requested : CallsAre old (λ h. Picked (IsToRemove old resets h) targets removed) → KeepsDue old now → Removes old now removed before outs
      → CallsAre now (λ h. Picked (IsToAdd now h) targets added) → CallsAre now (λ h. Picked (IsListenToAdd now h) targets listens)
      → KeepsDue now next → Adds now next added outs more → AddsListens next new listens more after → Requests old new targets resets before after
  requested are_removed kept removes are_added are_listens kept_too adds adds_listens = record {
    removed = removed;
    added = added;
    listens = listens;
    lines = adds.lines;
    listen_lines = adds_listens.lines;
    are_removed = are_removed;
    are_added = picked_adds targets removed added kept removes are_added;
    are_listens = picked_listens targets removed listens kept removes are_listens;
    are_lines = subst (λ (s : State). AllZip (IsAddLine s) added adds.lines) (state_kept kept) adds.are_lines;
    are_listen_lines = subst (λ (l : Limbo). AllZip (IsListenLine l) listens adds_listens.lines) (limbo_kept kept_too ∙ limbo_kept kept) adds_listens.are_lines;
    outs = adds_listens.outs ∙ ap (λ (o : List Out). o ++ each AddLimboTarget listens) (adds.outs ∙ ap (λ (o : List Out). o ++ each AddTarget added) removes.outs);
    calls = λ h stands. subst (AggregatorStandsFor new.watch.aggregator)
        (ap (requested_in adds_listens.lines) (ap (requested_in adds.lines) (sym (removes_requested removed h)) ∙ sym (fold-append requested_by h (each remove_line removed) adds.lines))
        ∙ sym (fold-append requested_by h (each remove_line removed ++ adds.lines) adds_listens.lines))
        (adds_listens.calls (requested_in adds.lines (unasked_all removed h)) (adds.calls (unasked_all removed h) (removes.calls h stands)));
  }

-- ---- what is due

-- what is requested of a client that differs in what is due is requested of the first one
module _ (old now : Kept) (kept : KeepsButCalls old now) (same : now.watch.aggregator ≡ old.watch.aggregator) where
  stands_now : (h : Calls) → AggregatorStandsFor old.watch.aggregator h → AggregatorStandsFor now.watch.aggregator h
  stands_now h stands = subst (λ (a : Aggregator). AggregatorStandsFor a h) (sym same) stands

  wanted_old : (t : ℤ) → IsWanted now.listeners t → IsWanted old.listeners t
  wanted_old t it = subst (λ (l : Table). IsWanted l t) kept.listeners it

  wanted_now : (t : ℤ) → IsWanted old.listeners t → IsWanted now.listeners t
  wanted_now t it = subst (λ (l : Table). IsWanted l t) (sym kept.listeners) it

  runs_same : (t : ℤ) → is_running t now.limbo.limbo ≡ is_running t old.limbo.limbo
  runs_same t = ap (λ (l : Listens). is_running t l.limbo) kept.limbo

  sought_old : (t : ℤ) → IsSought now t → IsSought old t
  sought_old t it = ⊎_elim (λ one. inl (wanted_old t one)) (λ one. inr (sym (runs_same t) ∙ one)) it

  sought_now : (t : ℤ) → IsSought old t → IsSought now t
  sought_now t it = ⊎_elim (λ one. inl (wanted_now t one)) (λ one. inr (runs_same t ∙ one)) it

  to_remove : (resets : List ℤ) (h : Calls) (t : ℤ) → IsToRemove now resets h t ↔ IsToRemove old resets h t
  to_remove resets h t = (
    λ it. record { asking = it.asking; why = ⊎_elim (λ never. inl (λ one. never (sought_now t one))) inr it.why },
    λ it. record { asking = it.asking; why = ⊎_elim (λ never. inl (λ one. never (sought_old t one))) inr it.why },
  )

  to_add : (h : Calls) (t : ℤ) → IsToAdd now h t ↔ IsToAdd old h t
  to_add h t = (
    λ it. record { wanted = wanted_old t it.wanted; unasking = it.unasking },
    λ it. record { wanted = wanted_now t it.wanted; unasking = it.unasking },
  )

  listen_to_add : (h : Calls) (t : ℤ) → IsListenToAdd now h t ↔ IsListenToAdd old h t
  listen_to_add h t = (
    λ it. record { running = sym (runs_same t) ∙ it.running; unasking = it.unasking },
    λ it. record { running = runs_same t ∙ it.running; unasking = it.unasking },
  )

  due_old : (due : Due) (t : ℤ) → IsDueIn now due t → IsDueIn old due t
  due_old Nothing t it = it
  due_old (One id) t it = it
  due_old (Resets ids) t it = it
  due_old due_all t it = sought_old t it

  due_now : (due : Due) (t : ℤ) → IsDueIn old due t → IsDueIn now due t
  due_now Nothing t it = it
  due_now (One id) t it = it
  due_now (Resets ids) t it = it
  due_now due_all t it = sought_now t it

  requested_then : {new : Kept} {before after : List Out} (targets resets : List ℤ) → Requests now new targets resets before after → Requests old new targets resets before after
  requested_then targets resets it = record {
    removed = it.removed;
    added = it.added;
    listens = it.listens;
    lines = it.lines;
    listen_lines = it.listen_lines;
    are_removed = λ h stands. picked_with (IsToRemove now resets h) (IsToRemove old resets h) targets it.removed (to_remove resets h) (it.are_removed h (stands_now h stands));
    are_added = λ h stands. picked_with (IsToAdd now (unasked_all it.removed h)) (IsToAdd old (unasked_all it.removed h)) targets it.added (to_add (unasked_all it.removed h)) (it.are_added h (stands_now h stands));
    are_listens = λ h stands. picked_with (IsListenToAdd now (unasked_all it.removed h)) (IsListenToAdd old (unasked_all it.removed h)) targets it.listens (listen_to_add (unasked_all it.removed h)) (it.are_listens h (stands_now h stands));
    are_lines = subst (λ (s : Store). AllZip (IsAddLine s.state) it.added it.lines) kept.store it.are_lines;
    are_listen_lines = subst (λ (l : Listens). AllZip (IsListenLine l.limbo) it.listens it.listen_lines) kept.limbo it.are_listen_lines;
    outs = it.outs;
    calls = λ h stands. it.calls h (stands_now h stands);
  }

  asked_then : {new : Kept} {before after : List Out} (due : Due) (changed targets resets : List ℤ) → due ≡ old.watch.due → AreDue now due changed targets → resets ≡ resets_of due → (((t : ℤ) → IsWanted now.listeners t → HasTargetRow now.store.state.rows t) → Requests now new targets resets before after)
      → ((t : ℤ) → IsWanted old.listeners t → HasTargetRow old.store.state.rows t) → AsksFor old new changed before after
  asked_then {new} {before} {after} due changed targets resets is are resets_are requests rows = record {
    targets = targets;
    are_due = subst (λ (d : Due). AreDue old d changed targets) is (record {
      ascending = are.ascending;
      each = λ t. (λ there. ⊎_elim (λ one. inl (due_old due t one)) inr ((are.each t).0 there), λ it. (are.each t).1 (⊎_elim (λ one. inl (due_now due t one)) inr it));
    });
    requests = subst (λ (r : List ℤ). Requests old new targets r before after) (resets_are ∙ ap resets_of is)
        (requested_then targets resets (requests (λ t wanted. subst (λ (s : Store). HasTargetRow s.state.rows t) (sym kept.store) (rows t (wanted_old t wanted)))));
  }

-- what is due was taken off, and then requested
pub asked_for : {k client now new : Kept} {before after : List Out} (due : Due) (changed targets resets : List ℤ) → k ≡ client → KeepsButCalls k now → now.watch.aggregator ≡ k.watch.aggregator → due ≡ k.watch.due → AreDue now due changed targets → resets ≡ resets_of due
    → (((t : ℤ) → IsWanted now.listeners t → HasTargetRow now.store.state.rows t) → Requests now new targets resets before after) → ((t : ℤ) → IsWanted client.listeners t → HasTargetRow client.store.state.rows t) → AsksFor client new changed before after
asked_for {k} {client} {now} {new} {before} {after} due changed targets resets whole kept same is are resets_are requests =
    subst (λ (c : Kept). ((t : ℤ) → IsWanted c.listeners t → HasTargetRow c.store.state.rows t) → AsksFor c new changed before after) whole (asked_then k now kept same due changed targets resets is are resets_are requests)

-- the documents in limbo were settled before
pub settled_limbo : {k client new : Kept} {before after : List Out} (limbo : Listens) (changed slice : List ℤ) → k ≡ client → Settles k.limbo limbo changed → slice ≡ changed → KeepsButCalls (with_listens k limbo) new → new.watch.due ≡ Nothing
    → (k.watch.is_open ≡ false → (new.watch.aggregator ≡ k.watch.aggregator) × (after ≡ before))
    → (k.watch.is_open ≡ true → ((t : ℤ) → IsWanted k.listeners t → HasTargetRow k.store.state.rows t) → AsksFor (with_listens k limbo) new slice before after) → SettlesLimbo client new before after
settled_limbo {k} {client} {new} {before} {after} limbo changed slice whole settles same rest idle closed asks = subst (λ (c : Kept). SettlesLimbo c new before after) whole (record {
  limbo = limbo;
  changed = changed;
  settles = settles;
  rest = rest;
  idle = idle;
  closed = closed;
  asks = λ opened rows. subst (λ (l : List ℤ). AsksFor (with_listens k limbo) new l before after) same (asks opened rows);
})
