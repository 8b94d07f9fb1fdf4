-- a client that stands for what it has heard, but that its listeners may still have to raise something
use Rattle.std.proofs.Common.{◌≡◌, ℕ, ◌≤◌, ℤ, List, [], length, Option, Some, None, IfSome, sym, ap, subst, ◌∙◌}
use Rattle.std.specs.List.{list_any}
use Rattle.host_api.specs.Host.{View}
use Rattle.client_events.specs.declared.event.Event.{Event}
use Rattle.listen_protocol.specs.Calls.{Calls}
use Rattle.document_keys.specs.Names.{Root}
use Rattle.limbo_listens.specs.Listens.{Listens, limbo_at}
use Rattle.limbo_resolver.specs.Laws.{IsSound}
use Rattle.limbo_resolver.specs.Limbo.{Key, Limbo}
use Rattle.listeners.specs.Table.{Table, target_of, viewed}
use Rattle.local_store.specs.State.{State}
use Rattle.local_store.specs.Store.{IsSpent, IsStored}
use Rattle.views.specs.Viewed.{Viewed}
use Rattle.write_pipeline.specs.Order.{outstanding}
use Rattle.sync_engine.specs.declared.watch_stream.WatchStream.{WatchStream}
use Rattle.client_turns.specs.Past.{Past, Turn, listener, raised_in, steps_of}
use Rattle.client_turns.specs.Settling.{Stance, stance_by, stance_of, HasTargetRow}
use Rattle.client_turns.specs.LimboListens.{going_on, limbo_of}
use Rattle.sync_engine.specs.Standing.{IsQuiet, Kept, StandsFor, StandsOn, StandsWith, Watches, limbo_in, stance_in, standing_in}
use Rattle.client_turns.specs.Turn.{answered_next}
use Rattle.client_turns.specs.Turns.{after}
use Rattle.client_turns.specs.Watching.{WatchStep, begun, calls_of, is_target, is_wanted, listened, passes, requested_in, step_by}
use Rattle.sync_engine.specs.Telling.{MovesBy}
use Rattle.sync_engine.proofs.Committed.{moves_still, nothing_moves}
use Rattle.sync_engine.proofs.Passing.{watches_passes}
use Rattle.target_cache.specs.declared.row.Row.{Row}

pub record Follows (client : Kept) (s : State) (past : Past) (limbo : Limbo) : Type 0 where
  pub state : client.store.state ≡ s
  pub listeners : (id : ℕ) → viewed client.listeners id ≡ listener id past
  pub targets : (id : ℕ) → target_of client.listeners id ≡ listened id past
  pub rows : (id : ℕ) → IfSome (listened id past) (HasTargetRow s.rows)
  pub unshown : (id : ℕ) → listener id past ≡ None → limbo_in client id ≡ []
  pub limbo_is : client.limbo.limbo ≡ limbo
  pub sound : IsSound limbo
  pub watch : Watches client.watch past limbo
  pub writes : StandsOn client.writes (steps_of past)
  pub pending : outstanding (steps_of past) ≤ length s.batches

pub follows : {client : Kept} {s : State} {past : Past} {limbo : Limbo} → StandsWith client s past limbo → Follows client s past limbo
follows it = record { state = it.state; listeners = it.listeners; targets = it.targets; rows = it.rows; unshown = it.unshown; limbo_is = it.limbo_is; sound = it.sound; watch = it.watch; writes = it.writes; pending = it.pending }

pub stands_with : {client : Kept} {s : State} {past : Past} {limbo : Limbo} → Follows client s past limbo → ((id : ℕ) → IfSome (listener id past) (IsQuiet client.root s (stance_of past id) (limbo_in client id))) → StandsWith client s past limbo
stands_with it quiet = record { state = it.state; listeners = it.listeners; targets = it.targets; rows = it.rows; quiet = quiet; unshown = it.unshown; limbo_is = it.limbo_is; sound = it.sound; watch = it.watch; writes = it.writes; pending = it.pending }

-- how the targets of listeners stand is kept as it is read off the past
pub stance_same : {client : Kept} {s : State} {past : Past} {limbo : Limbo} → Follows client s past limbo → (id : ℕ) → stance_in client id ≡ stance_of past id
stance_same it id = λ i. stance_by (it.targets id i) (λ x. it.watch.current x i) (it.watch.online i)

-- every listener of the client is quiet
abbrev pub AreQuiet : Kept → Type 0
AreQuiet client = (id : ℕ) (view : Viewed) → viewed client.listeners id ≡ Some view → IsQuiet client.root client.store.state (stance_in client id) (limbo_in client id) view

pub are_quiet : {client : Kept} {s : State} {past : Past} {limbo : Limbo} → StandsWith client s past limbo → AreQuiet client
are_quiet {client} {s} {past} stands id view there =
    let quiet : IsQuiet client.root s (stance_of past id) (limbo_in client id) view = subst (λ (v : Option Viewed). IfSome v (IsQuiet client.root s (stance_of past id) (limbo_in client id))) (sym (stands.listeners id) ∙ there) (stands.quiet id) in
    subst (λ (t : State). IsQuiet client.root t (stance_in client id) (limbo_in client id) view) (sym stands.state)
    (subst (λ (k : Stance). IsQuiet client.root s k (limbo_in client id) view) (sym (stance_same (follows stands) id)) quiet)

-- the targets stand the same where the listeners and the stream of listeners stay
pub stance_kept : (old new : Kept) → new.listeners ≡ old.listeners → new.watch ≡ old.watch → (id : ℕ) → stance_in new id ≡ stance_in old id
stance_kept old new listeners watch id = λ i. stance_by (target_of (listeners i) id) (standing_in (watch i).current.targets.items) (watch i).online

-- a listener is quiet as it was, in what is kept of the state, its stance and what it has in limbo
pub quiet_as : (old new : Kept) (s : State) (id : ℕ) (view : Viewed) → new.root ≡ old.root → new.store.state ≡ s → stance_in new id ≡ stance_in old id → limbo_in new id ≡ limbo_in old id
    → IsQuiet old.root s (stance_in old id) (limbo_in old id) view → IsQuiet new.root new.store.state (stance_in new id) (limbo_in new id) view
quiet_as old new s id view root state stance limbo quiet =
    subst (λ (r : Root). IsQuiet r new.store.state (stance_in new id) (limbo_in new id) view) (sym root)
    (subst (λ (t : State). IsQuiet old.root t (stance_in new id) (limbo_in new id) view) (sym state)
    (subst (λ (k : Stance). IsQuiet old.root s k (limbo_in new id) view) (sym stance)
    (subst (λ (keys : List Key). IsQuiet old.root s (stance_in old id) keys view) (sym limbo) quiet)))

-- so it is where the listeners, what is in limbo and the stream of listeners stay
pub quiet_kept : (old new : Kept) (s : State) (id : ℕ) (view : Viewed) → new.root ≡ old.root → new.store.state ≡ s → new.listeners ≡ old.listeners → new.limbo ≡ old.limbo → new.watch ≡ old.watch
    → IsQuiet old.root s (stance_in old id) (limbo_in old id) view → IsQuiet new.root new.store.state (stance_in new id) (limbo_in new id) view
quiet_kept old new s id view root state listeners limbo watch quiet =
    quiet_as old new s id view root state (stance_kept old new listeners watch id) (ap (λ (l : Listens). limbo_at l id) limbo) quiet

-- An event that is none of the stream's of listeners, and that no listener begins or ends by.
pub record IsPlain (s : State) (past : Past) (e : Event) (answer : Turn) : Type 0 where
  pub step : step_by e answer.refusal ≡ passes
  pub plain : (id : ℕ) → listener id (answered_next s past e answer) ≡ listener id past
  pub targets : (id : ℕ) → listened id (answered_next s past e answer) ≡ listened id past
  pub began : begun (answered_next s past e answer) ≡ begun past
  pub unrequested : (h : Calls) → requested_in answer.lines h ≡ h
  pub unraised : (id : ℕ) → raised_in id answer.lines ≡ None

pub follows_plain : {old : Kept} {s : State} {past : Past} (mid : Kept) (e : Event) (answer : Turn) → StandsFor old s past → IsPlain s past e answer → mid.store.state ≡ after s answer.commit → mid.listeners ≡ old.listeners → mid.limbo ≡ old.limbo → mid.watch ≡ old.watch → (after s answer.commit).rows ≡ s.rows
    → StandsOn mid.writes (steps_of (answered_next s past e answer)) → outstanding (steps_of (answered_next s past e answer)) ≤ length (after s answer.commit).batches
    → Follows mid (after s answer.commit) (answered_next s past e answer) (going_on (calls_of past) (step_by e answer.refusal) (limbo_of past))
follows_plain {old} {s} {past} mid e answer stands it state listeners limbo watch rows writes pending = record {
  state = state;
  listeners = λ id. ap (λ (t : Table). viewed t id) listeners ∙ stands.listeners id ∙ sym (it.plain id);
  targets = λ id. ap (λ (t : Table). target_of t id) listeners ∙ stands.targets id ∙ sym (it.targets id);
  rows = λ id. subst (λ (l : List Row). IfSome (listened id next) (HasTargetRow l)) (sym rows) (subst (λ (o : Option ℤ). IfSome o (HasTargetRow s.rows)) (sym (it.targets id)) (stands.rows id));
  unshown = λ id none. ap (λ (l : Listens). limbo_at l id) limbo ∙ stands.unshown id (sym (it.plain id) ∙ none);
  limbo_is = ap (λ (l : Listens). l.limbo) limbo ∙ stands.limbo_is ∙ goes_on;
  sound = subst IsSound goes_on stands.sound;
  watch = subst (Watches mid.watch next) goes_on (subst (λ (w : WatchStream). Watches w next (limbo_of past)) (sym watch) (watches_passes s past e answer it.step old.watch (limbo_of past) it.unrequested wanted stands.watch));
  writes = writes;
  pending = pending;
}
  where
    next : Past
    next = answered_next s past e answer

    goes_on : limbo_of past ≡ going_on (calls_of past) (step_by e answer.refusal) (limbo_of past)
    goes_on = sym (ap (λ (w : WatchStep). going_on (calls_of past) w (limbo_of past)) it.step)

    wanted : (x : ℤ) → is_wanted x (answered_next s past e answer) ≡ is_wanted x past
    wanted x = λ i. list_any (λ id. is_target x (it.targets id i)) (it.began i)

-- what holds of the state that the client keeps holds of the one that it stands for
pub by_state : {client : Kept} {s : State} {past : Past} (P : State → Type 0) → StandsFor client s past → (StandsFor client client.store.state past → P client.store.state) → P s
by_state {client} {s} {past} P stands holds = subst P stands.state (holds (subst (λ (t : State). StandsFor client t past) (sym stands.state) stands))

-- where nothing was done, a crash finds the state that the client stands for
pub nothing_done : {client : Kept} {e : Event} {v : View} → ¬ (IsSpent client.store) → IsStored client.store v → (s : State) (past : Past) → StandsFor client s past → MovesBy s past e v v
nothing_done {client} {e} {v} whole is s past stands = by_state (λ (t : State). MovesBy t past e v v) stands (λ st. moves_still (nothing_moves client.store.state whole is))
