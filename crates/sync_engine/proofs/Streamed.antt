-- events that change whether the client is offline
use Rattle.std.proofs.Common.{◌≡◌, ◌↔◌, ◌⊎◌, ⊎_elim, inl, inr, ℕ, ℤ, ◌≤◌, Bool, true, false, ◌&&◌, not, List, [], ◌∷◌, length, Option, Some, None, option_map, is_some, IfSome, IsTrue, IsSome, if◌then◌else◌, Vec, Global, refl, sym, ap, subst, ◌∙◌}
use Rattle.std.proofs.lemmas.Bool.{true≢false}
use Rattle.std.specs.List.{AllZip}
use Rattle.std.specs.Map.{lookup}
use Rattle.std.specs.Option.{option_and_then}
use Rattle.client_events.specs.declared.event.Event.{Event}
use Rattle.client_events.specs.declared.event.Event.TheVariants as event
use Rattle.listeners.proofs.Ids.{id_itself}
use Rattle.listeners.proofs.Tabled.{no_target}
use Rattle.limbo_resolver.specs.Laws.{IsSound}
use Rattle.limbo_resolver.specs.Limbo.{Limbo}
use Rattle.listeners.specs.Table.{Listening as Link, Table, is_id, target_of, viewed}
use Rattle.local_store.specs.State.{State}
use Rattle.value_model.specs.declared.message.StreamName.TheVariants as stream
use Rattle.views.specs.Viewed.{Viewed}
use Rattle.views.specs.declared.standing.Standing.{Standing}
use Rattle.watch_aggregator.specs.Standing.{StandsFor as AggregatorStandsFor}
use Rattle.write_pipeline.specs.Order.{outstanding, Steps}
use Rattle.client_turns.specs.Answers.{Answers}
use Rattle.client_turns.specs.Lines.{Line}
use Rattle.client_turns.specs.Past.{Past, Turn, listener, raised_in, steps_by, steps_of}
use Rattle.client_turns.specs.Settling.{Stance, current_with, stance_by, standing_or}
use Rattle.client_turns.specs.LimboListens.{going_on, is_sought, limbo_of}
use Rattle.sync_engine.specs.Standing.{IsQuiet, Kept, StandsFor, StandsOn, Watches, limbo_in, stance_in, standing_in}
use Rattle.sync_engine.specs.Stream.{IsClosed, IsOpened, IsRung, KeepsUnlessOffline, is_newly_offline, resets_of, unless_offline}
use Rattle.sync_engine.specs.Telling.{HandsSettled, IsQuietOr, IsShown, KeepsRest, Loses, Raises, RefusesStream, with_watch}
use Rattle.client_turns.specs.Turn.{answered_next, is_heard}
use Rattle.client_turns.specs.Turns.{after, answered, refused}
use Rattle.client_turns.specs.Watching.{WatchStep, calls_by, calls_of, closes, current_keys, if_so, is_any_wanted, is_offline, is_wanted, is_watched, listened, online_by, online_closed, online_of, online_rung, open_by, rings, step_by, told_by}
use Rattle.client_turns.specs.Writing.{bad_turn, closed_turn, opened_turn}
use Rattle.client_turns.specs.declared.online.OnlineState.{OnlineState}
use Rattle.client_turns.specs.declared.online.OnlineState.TheVariants.{Unknown, Online, Offline}
use Rattle.sync_engine.specs.declared.out.Out.{Out}
use Rattle.sync_engine.specs.declared.out.Outcome.{Outcome}
use Rattle.sync_engine.specs.declared.out.Outcome.TheVariants.{Done, Refused}
use Rattle.client_turns.specs.declared.refusal.Refusal.{Refusal}
use Rattle.client_turns.specs.declared.refusal.Refusal.TheVariants.{BadMessage, StreamState}
use Rattle.sync_engine.specs.declared.watch_stream.Due.TheVariants.{Nothing}
use Rattle.sync_engine.specs.declared.watch_stream.WatchStream.{WatchStream}
use Rattle.sync_engine.proofs.Following.{AreQuiet, Follows, are_quiet}
use Rattle.sync_engine.proofs.Handing.{Handed, as_done, handed, hands_refused, keeps_all, no_reset, raises_none}
use Rattle.client_turns.proofs.Current.{current_held, offline_current, sought_still}
use Rattle.sync_engine.proofs.Passing.{due_still}
use Rattle.value_model.specs.declared.document.RpcStatus.{RpcStatus}
use Rattle.sync_engine.proofs.Turning.{viewed_linked}
use Rattle.client_turns.proofs.Wanted.{any_in}

-- ---- where nothing has to be refreshed

pub quiet_unless : (client : Kept) (so : Bool) → so ≡ false → IsQuietOr so client → AreQuiet client
quiet_unless client so not_so quiet id view there = ⊎_elim (λ is. absurd (true≢false (sym is ∙ not_so))) (λ is. is) (quiet id view there)

-- the client is newly offline only where it wasn't, and is
pub newly_was : (was now : OnlineState) → is_offline was ≡ true → is_newly_offline was now ≡ false
newly_was was now is = ap (λ b. not b && is_offline now) is

pub newly_not : (was now : OnlineState) → is_offline now ≡ false → is_newly_offline was now ≡ false
newly_not was now not_so = ap (λ b. not (is_offline was) && b) not_so ∙ none (not (is_offline was))
  where
    none : (b : Bool) → (b && false) ≡ false
    none true = refl
    none false = refl

-- whether there is a listener
pub any_listener : (table : Table) (none : Bool) → IsTrue none ↔ ((id : ℕ) → viewed table id ≡ None) → (not none ≡ true) ↔ ((id : ℕ) × IsSome (target_of table id))
any_listener table none tells = (forth table none tells, back)
  where
    here : (k : ℕ) (l : Link) (rest : Table) → target_of ((k, l) ∷ rest) k ≡ Some l.target_id
    here k l rest = ap (λ b. option_map (λ (x : Link). x.target_id) (if b then Some l else lookup (is_id k) rest)) (id_itself k)

    forth : (t : Table) (b : Bool) → IsTrue b ↔ ((id : ℕ) → viewed t id ≡ None) → not b ≡ true → (id : ℕ) × IsSome (target_of t id)
    forth t true says is = absurd (true≢false (sym is))
    forth [] false says is = absurd (true≢false (sym (says.1 (λ id. refl))))
    forth ((k, l) ∷ rest) false says is = (k, ap is_some (here k l rest))

    back : (id : ℕ) × IsSome (target_of table id) → not none ≡ true
    back it = by none refl
      where
        by : (b : Bool) → none ≡ b → not b ≡ true
        by false is = refl
        by true is = absurd (true≢false (sym (sym (ap is_some (no_target table it.0 (tells.0 is it.0))) ∙ it.1)))

pub loses_by : {old new : Kept} {before after_them : List Out} (lost : WatchStream) (none : Bool) → IsTrue none ↔ ((id : ℕ) → viewed old.listeners id ≡ None) → IsClosed (not none) old.watch lost → KeepsRest (with_watch old lost) new
    → (IsQuietOr (is_newly_offline old.watch.online lost.online) (with_watch old lost) → Raises (with_watch old lost) new before after_them) → Loses old new before after_them
loses_by {old} {new} {before} {after_them} lost none tells closed rest raises = record {
  wanted = not none;
  is_wanted = any_listener old.listeners none tells;
  lost = lost;
  closed = closed;
  rest = rest;
  raises = raises;
}

-- ---- what stands of the targets

-- nothing is current while the client is offline
unless_same : (online : OnlineState) (past : Past) (x : ℤ) (found : Option Standing) → found ≡ option_map current_with (current_keys x past) → (is_offline online ≡ true → is_offline (online_of past) ≡ true) → unless_offline online found ≡ found
unless_same online past x found is falls = by (is_offline online) refl
  where
    by : (b : Bool) → is_offline online ≡ b → (if b then None else found) ≡ found
    by true off = sym (is ∙ ap (option_map current_with) (offline_current x past (falls off)))
    by false on = refl

-- What is current where an event only tells whether the client is offline.
module _ (s : State) (past : Past) (e : Event) (answer : Turn) (old new : WatchStream) {limbo : Limbo} (it : Watches old past limbo) (keeps : KeepsUnlessOffline new.online old.current new.current) (online : new.online ≡ online_of (answered_next s past e answer))
    (wanted : (x : ℤ) → is_wanted x (answered_next s past e answer) ≡ is_wanted x past)
    (told : (x : ℤ) → told_by x (step_by e answer.refusal) answer.commit (calls_of past) (current_keys x past) ≡ current_keys x past)
    (from_offline : is_offline (online_of past) ≡ true → (x : ℤ) → current_keys x past ≡ None) where
  current_unless : (x : ℤ) → standing_in new.current.targets.items x ≡ option_map current_with (current_keys x (answered_next s past e answer))
  current_unless x =
      keeps x ∙ ap (unless_offline new.online) (it.current x) ∙ by (is_offline new.online) refl
      ∙ ap (λ k. option_map current_with (if_so (is_wanted x (answered_next s past e answer) && not (is_offline (online_of (answered_next s past e answer)))) k)) (sym (told x))
    where
      next_off : is_offline new.online ≡ is_offline (online_of (answered_next s past e answer))
      next_off = ap is_offline online

      kept : is_wanted x past ≡ is_wanted x past → (b : Bool) → is_offline (online_of past) ≡ b → if_so (is_wanted x past && true) (current_keys x past) ≡ current_keys x past
      kept same true off = ap (if_so (is_wanted x past && true)) (from_offline off x) ∙ none (is_wanted x past && true) ∙ sym (from_offline off x)
        where
          none : (c : Bool) → if_so c None ≡ None
          none true = refl
          none false = refl
      kept same false on = ap (λ c. if_so (is_wanted x past && not c) (current_keys x past)) (sym on) ∙ current_held x past

      by : (b : Bool) → is_offline new.online ≡ b → (if b then None else option_map current_with (current_keys x past)) ≡ option_map current_with (if_so (is_wanted x (answered_next s past e answer) && not (is_offline (online_of (answered_next s past e answer)))) (current_keys x past))
      by true off = ap (option_map current_with) (sym (gone (is_wanted x (answered_next s past e answer))))
        where
          gone : (c : Bool) → if_so (c && not (is_offline (online_of (answered_next s past e answer)))) (current_keys x past) ≡ None
          gone c = ap (λ o. if_so (c && not o) (current_keys x past)) (sym next_off ∙ off) ∙ at c
            where
              at : (d : Bool) → if_so (d && false) (current_keys x past) ≡ None
              at true = refl
              at false = refl
      by false on = ap (option_map current_with) (sym (ap (λ o. if_so (is_wanted x (answered_next s past e answer) && not o) (current_keys x past)) (sym next_off ∙ on) ∙ ap (λ w. if_so (w && true) (current_keys x past)) (wanted x) ∙ kept refl (is_offline (online_of past)) refl))

-- ---- how a listener's target stands then

-- a listener's target stands as before, unless the client is newly offline
stance_still : (client : Kept) (past : Past) (lost : WatchStream) (id : ℕ) {limbo : Limbo} → Watches client.watch past limbo → KeepsUnlessOffline lost.online client.watch.current lost.current → is_offline lost.online ≡ is_offline client.watch.online → stance_in (with_watch client lost) id ≡ stance_in client id
stance_still client past lost id it keeps same = λ i. record { target = target_of client.listeners id; standing = standing_or (keys (target_of client.listeners id) i); offline = same i }
  where
    keys : (o : Option ℤ) → option_and_then (standing_in lost.current.targets.items) o ≡ option_and_then (standing_in client.watch.current.targets.items) o
    keys None = refl
    keys (Some x) = keeps x ∙ unless_same lost.online past x (standing_in client.watch.current.targets.items x) (it.current x) (λ off. ap is_offline (sym it.online) ∙ sym same ∙ off)

-- each listener is quiet then, unless the client is newly offline
quiet_then : {client : Kept} {s : State} {past : Past} (lost : WatchStream) → StandsFor client s past → KeepsUnlessOffline lost.online client.watch.current lost.current
    → ((id : ℕ) (view : Viewed) → viewed client.listeners id ≡ Some view → (is_newly_offline client.watch.online lost.online ≡ true) ⊎ (is_offline lost.online ≡ is_offline client.watch.online))
    → IsQuietOr (is_newly_offline client.watch.online lost.online) (with_watch client lost)
quiet_then {client} {s} {past} lost stands keeps tells id view there = ⊎_elim inl
    (λ same. inr (subst (λ (k : Stance). IsQuiet client.root client.store.state k (limbo_in client id) view) (sym (stance_still client past lost id stands.watch keeps same)) (are_quiet stands id view there)))
    (tells id view there)

-- with a wanted target a close leaves the client offline just where it was, or it is newly so
closed_tells : (online lost : OnlineState) → lost ≡ online_closed true online → (is_newly_offline online lost ≡ true) ⊎ (is_offline lost ≡ is_offline online)
closed_tells Unknown lost is = inl (ap (is_newly_offline Unknown) is)
closed_tells Online lost is = inr (ap is_offline is)
closed_tells Offline lost is = inr (ap is_offline is)

rung_tells : (online lost : OnlineState) → lost ≡ online_rung online → (is_newly_offline online lost ≡ true) ⊎ (is_offline lost ≡ is_offline online)
rung_tells Unknown lost is = inl (ap (is_newly_offline Unknown) is)
rung_tells Online lost is = inr (ap is_offline is)
rung_tells Offline lost is = inr (ap is_offline is)

-- ---- an event that is one of the stream's alone

-- it touches no listener's target and no batch
pub record IsOfWatch (s : State) (past : Past) (e : Event) (answer : Turn) : Type 0 where
  pub plain : (id : ℕ) → listener id (answered_next s past e answer) ≡ listener id past
  pub silent : answer.lines ≡ []
  pub unmade : answer.commit ≡ None
  pub steps : steps_by e answer.refusal (steps_of past) ≡ steps_of past

module _ (old : Kept) (lost : WatchStream) (s : State) (past : Past) (e : Event) (answer : Turn) (stands : StandsFor old s past) (such : IsOfWatch s past e answer) where
  next_is : Past
  next_is = answered_next s past e answer

  pub no_lines : (id : ℕ) → listened id (answered_next s past e answer) ≡ listened id past
  no_lines id = ap (λ (ls : List Line). Rattle.client_turns.specs.Watching.listened_in id ls (listened id past)) such.silent

  pub wanted_still : (x : ℤ) → is_wanted x (answered_next s past e answer) ≡ is_wanted x past
  wanted_still x = λ i. Rattle.std.specs.List.list_any (λ id. Rattle.client_turns.specs.Watching.is_target x (no_lines id i)) (Rattle.client_turns.specs.Watching.begun_in (such.silent i) (Rattle.client_turns.specs.Watching.begun past))

  steps_still : steps_of (answered_next s past e answer) ≡ steps_of past
  steps_still = ap (λ (ls : List Line). Rattle.client_turns.specs.Past.sent_in ls (steps_by e answer.refusal (steps_of past))) such.silent ∙ such.steps

  same_after : after s answer.commit ≡ s
  same_after = ap (after s) such.unmade

  pub follows_watch : {limbo : Limbo} → limbo_of past ≡ limbo → Watches lost (answered_next s past e answer) limbo → Follows (with_watch old lost) (after s answer.commit) (answered_next s past e answer) limbo
  follows_watch goes_on watch = record {
    state = stands.state ∙ sym same_after;
    listeners = λ id. stands.listeners id ∙ sym (such.plain id);
    targets = λ id. stands.targets id ∙ sym (no_lines id);
    rows = λ id. subst (λ (x : State). IfSome (listened id (answered_next s past e answer)) (Rattle.client_turns.specs.Settling.HasTargetRow x.rows)) (sym same_after) (subst (λ (o : Option ℤ). IfSome o (Rattle.client_turns.specs.Settling.HasTargetRow s.rows)) (sym (no_lines id)) (stands.rows id));
    unshown = λ id none. stands.unshown id (sym (such.plain id) ∙ none);
    limbo_is = stands.limbo_is ∙ goes_on;
    sound = subst IsSound goes_on stands.sound;
    watch = watch;
    writes = subst (StandsOn old.writes) (sym steps_still) stands.writes;
    pending = subst (λ (x : State). outstanding (steps_of (answered_next s past e answer)) ≤ length x.batches) (sym same_after) (subst (λ (h : _). outstanding h ≤ length s.batches) (sym steps_still) stands.pending);
  }

  -- it closed the stream
  pub watches_closed : step_by e answer.refusal ≡ closes → (wanted : Bool) → (IsTrue wanted ↔ ((id : ℕ) × IsSome (target_of old.listeners id))) → IsClosed wanted old.watch lost → {limbo : Limbo} → Watches lost (answered_next s past e answer) limbo
  watches_closed step wanted any closed = record {
    opening = closed.opening ∙ sym (ap (λ (w : WatchStep). open_by w (is_watched past)) step);
    calls = subst (AggregatorStandsFor lost.aggregator) (sym no_calls) closed.calls;
    online = online_is;
    current = current_unless s past e answer old.watch lost stands.watch closed.current online_is wanted_still (λ x. ap (λ (w : WatchStep). told_by x w answer.commit (calls_of past) (current_keys x past)) step) (λ off x. offline_current x past off);
    spelled = subst Rattle.watch_points.specs.SpelledCalls.AreSpelledCalls (sym no_calls) tt;
    due = λ opened x. absurd (true≢false (sym opened ∙ ap (λ (w : WatchStep). open_by w (is_watched past)) step));
  }
    where
      no_calls : calls_of (answered_next s past e answer) ≡ []
      no_calls = ap (λ (ls : List Line). Rattle.client_turns.specs.Watching.requested_in ls (calls_by (step_by e answer.refusal) answer.commit (calls_of past))) such.silent ∙ ap (λ (w : WatchStep). calls_by w answer.commit (calls_of past)) step

      online_is : lost.online ≡ online_of (answered_next s past e answer)
      online_is =
          closed.online ∙ ap (λ w. online_closed w old.watch.online) (any_in old.listeners past stands.targets wanted any) ∙ ap (online_closed (is_any_wanted past)) stands.watch.online
          ∙ sym (ap (λ (w : WatchStep). online_by w (is_any_wanted past) (online_of past)) step)

  -- the timer went off
  pub watches_rung : step_by e answer.refusal ≡ rings → IsRung old.watch lost → Watches lost (answered_next s past e answer) (limbo_of past)
  watches_rung step rung = record {
    opening = rung.opening ∙ stands.watch.opening ∙ sym (ap (λ (w : WatchStep). open_by w (is_watched past)) step);
    calls = subst (λ (a : _). AggregatorStandsFor a (calls_of (answered_next s past e answer))) (sym rung.aggregator) (subst (AggregatorStandsFor old.watch.aggregator) (sym same_calls) stands.watch.calls);
    online = online_is;
    current = current_unless s past e answer old.watch lost stands.watch rung.current online_is wanted_still (λ x. ap (λ (w : WatchStep). told_by x w answer.commit (calls_of past) (current_keys x past)) step) (λ off x. offline_current x past off);
    spelled = subst Rattle.watch_points.specs.SpelledCalls.AreSpelledCalls (sym same_calls) stands.watch.spelled;
    due = λ opened x. ⊎_elim
        (λ due. inl (subst (λ (d : _). Rattle.sync_engine.specs.Standing.IsDue (answered_next s past e answer) (limbo_of past) d x) (sym rung.due) (due_still past (answered_next s past e answer) (limbo_of past) x old.watch.due (wanted_still x) due)))
        (λ asks. inr (ap (Rattle.listen_protocol.specs.Transcript.is_asked_in x) same_calls ∙ asks ∙ sym (sought_still past (answered_next s past e answer) (limbo_of past) x (wanted_still x))))
        (stands.watch.due (sym (ap (λ (w : WatchStep). open_by w (is_watched past)) step) ∙ opened) x);
  }
    where
      same_calls : calls_of (answered_next s past e answer) ≡ calls_of past
      same_calls = ap (λ (ls : List Line). Rattle.client_turns.specs.Watching.requested_in ls (calls_by (step_by e answer.refusal) answer.commit (calls_of past))) such.silent ∙ ap (λ (w : WatchStep). calls_by w answer.commit (calls_of past)) step

      online_is : lost.online ≡ online_of (answered_next s past e answer)
      online_is = rung.online ∙ ap online_rung stands.watch.online ∙ sym (ap (λ (w : WatchStep). online_by w (is_any_wanted past) (online_of past)) step)

-- ---- what is handed out

-- the stream was lost
pub hands_lost : {old new : Kept} {s : State} {past : Past} (vec : Vec Out Global) (e : Event) (answer : Turn) → StandsFor old s past → IsOfWatch s past e answer → step_by e answer.refusal ≡ closes → is_heard answer.refusal ≡ true → Answers s past e answer → Loses old new [] vec.items → Handed s past e answer vec.items new
hands_lost {old} {new} {s} {past} vec e answer stands such step heard answers it =
    handed s past e answer (with_watch old it.lost) new [] vec.items answers heard
    (follows_watch old it.lost s past e answer stands such (sym (ap (λ (w : WatchStep). going_on (calls_of past) w (limbo_of past)) step)) (watches_closed old it.lost s past e answer stands such step it.wanted it.is_wanted it.closed))
    it.rest
    (it.raises (quiet_then it.lost stands it.closed.current (λ id view there. closed_tells old.watch.online it.lost.online (it.closed.online ∙ ap (λ w. online_closed w old.watch.online) (it.is_wanted.1 (id, linked id view there))))))
    (λ id. ap (raised_in id) such.silent)
    (subst (AllZip (IsShown new) []) (sym such.silent) tt)
  where
    linked : (id : ℕ) (view : Viewed) → viewed old.listeners id ≡ Some view → IsSome (target_of old.listeners id)
    linked id view there = by (target_of old.listeners id) refl
      where
        by : (o : Option ℤ) → target_of old.listeners id ≡ o → IsSome (target_of old.listeners id)
        by None none = absurd (viewed_linked old.listeners id view there none)
        by (Some t) some = ap is_some some

-- no request is due then
pub lost_due : {old new : Kept} {before after_them : List Out} → Loses old new before after_them → old.watch.due ≡ Nothing → new.watch.due ≡ Nothing
lost_due it idle = ap (λ (w : WatchStream). w.due) it.rest.watch ∙ it.closed.due ∙ idle

-- the timer went off
pub hands_rung : {old new : Kept} {s : State} {past : Past} {vec : Vec Out Global} (lost : WatchStream) (before : List Out) → before ≡ [] → StandsFor old s past → IsRung old.watch lost → old.watch.due ≡ Nothing → KeepsRest (with_watch old lost) new
    → (IsQuietOr (is_newly_offline old.watch.online lost.online) (with_watch old lost) → Raises (with_watch old lost) new before vec.items) → HandsSettled s past event.Timer (Done vec) new
hands_rung {old} {new} {s} {past} {vec} lost before none stands rung idle rest raises =
    as_done refl (no_reset past event.Timer None new (λ t. refl) (ap resets_of (ap (λ (w : WatchStream). w.due) rest.watch ∙ rung.due ∙ idle)))
    (handed s past event.Timer (answered []) (with_watch old lost) new before vec.items refl refl
    (follows_watch old lost s past event.Timer (answered []) stands such refl (watches_rung old lost s past event.Timer (answered []) stands such refl rung))
    rest (raises (quiet_then lost stands rung.current (λ id view there. rung_tells old.watch.online lost.online rung.online))) (λ id. refl) (subst (λ (os : List Out). AllZip (IsShown new) os []) (sym none) tt))
  where
    such : IsOfWatch s past event.Timer (answered [])
    such = record { plain = λ id. refl; silent = refl; unmade = refl; steps = refl }

-- the stream was opened
pub hands_watched : {old : Kept} {s : State} {past : Past} {vec : Vec Out Global} (lost : WatchStream) → StandsFor old s past → IsOpened old.watch lost → old.watch.is_open ≡ false → vec.items ≡ [] → HandsSettled s past (event.Opened stream.Watch) (Done vec) (with_watch old lost)
hands_watched {old} {s} {past} {vec} lost stands opened closed none =
    as_done refl (no_reset past (event.Opened stream.Watch) None (with_watch old lost) (λ t. refl) (ap resets_of opened.due))
    (handed s past (event.Opened stream.Watch) (answered []) (with_watch old lost) (with_watch old lost) vec.items vec.items
    (sym (ap (opened_turn stream.Watch) (sym stands.watch.opening ∙ closed))) refl
    (follows_watch old lost s past (event.Opened stream.Watch) (answered []) stands such refl watch)
    keeps_all (raises_none vec.items quiet) (λ id. refl) (subst (λ (os : List Out). AllZip (IsShown (with_watch old lost)) os []) (sym none) tt))
  where
    such : IsOfWatch s past (event.Opened stream.Watch) (answered [])
    such = record { plain = λ id. refl; silent = refl; unmade = refl; steps = refl }

    next : Past
    next = answered_next s past (event.Opened stream.Watch) (answered [])

    wanted : (x : ℤ) → is_wanted x (answered_next s past (event.Opened stream.Watch) (answered [])) ≡ is_wanted x past
    wanted x = refl

    watch : Watches lost (answered_next s past (event.Opened stream.Watch) (answered [])) (limbo_of past)
    watch = record {
      opening = opened.opening;
      calls = opened.calls;
      online = opened.online ∙ stands.watch.online;
      current = λ x. ap (λ (c : _). standing_in c.targets.items x) opened.current ∙ stands.watch.current x ∙ ap (option_map current_with) (sym (current_held x past));
      spelled = tt;
      due = λ so x. ⊎_elim
          (λ is. inl (subst (λ (d : _). Rattle.sync_engine.specs.Standing.IsDue (answered_next s past (event.Opened stream.Watch) (answered [])) (limbo_of past) d x) (sym opened.due) is))
          inr
          (due_or x (is_sought x past (limbo_of past)) refl);
    }
      where
        due_or : (x : ℤ) (b : Bool) → is_sought x past (limbo_of past) ≡ b → (is_sought x past (limbo_of past) ≡ true) ⊎ (false ≡ is_sought x past (limbo_of past))
        due_or x true is = inl is
        due_or x false is = inr (sym is)

    quiet : AreQuiet (with_watch old lost)
    quiet id view there = subst (λ (k : Stance). IsQuiet old.root old.store.state k (limbo_in old id) view) (sym same) (are_quiet stands id view there)
      where
        same : stance_in (with_watch old lost) id ≡ stance_in old id
        same = λ i. stance_by (target_of old.listeners id) (standing_in (opened.current i).targets.items) (opened.online i)

-- the event isn't allowed by the stream, which is open, or isn't
pub hands_disallowed : {client : Kept} {s : State} {past : Past} {e : Event} (is_open : Bool) (outcome : Outcome) → RefusesStream is_open outcome → client.watch.due ≡ Nothing → StandsFor client s past → Answers s past e (refused (StreamState stream.Watch is_open)) → HandsSettled s past e outcome client
hands_disallowed {client} {s} {past} {e} is_open (Refused refusal outs) refuses idle stands answers =
    subst (λ (r : Refusal). HandsSettled s past e (Refused r outs) client) (sym refuses.0) (hands_refused (StreamState stream.Watch is_open) refl idle stands answers refuses.1)
hands_disallowed is_open (Done outs) refuses idle stands answers = absurd refuses

-- ---- what the events come to

module _ {client : Kept} {s : State} {past : Past} (stands : StandsFor client s past) where
  watch_is : (b : Bool) → client.watch.is_open ≡ b → is_watched past ≡ b
  watch_is b is = sym stands.watch.opening ∙ is

  pub watch_opened_twice : client.watch.is_open ≡ true → Answers s past (event.Opened stream.Watch) (refused (StreamState stream.Watch true))
  watch_opened_twice is = sym (ap (opened_turn stream.Watch) (watch_is true is))

  pub watch_closed_unopened : (status : _) → client.watch.is_open ≡ false → Answers s past (event.Closed stream.Watch status) (refused (StreamState stream.Watch false))
  watch_closed_unopened status is = sym (ap (closed_turn s (steps_of past) stream.Watch status) (watch_is false is))

  pub watch_closed_now : (status : _) → client.watch.is_open ≡ true → Answers s past (event.Closed stream.Watch status) (answered [])
  watch_closed_now status is = sym (ap (closed_turn s (steps_of past) stream.Watch status) (watch_is true is))

  pub watch_bad_unopened : (member : List ℕ) → client.watch.is_open ≡ false → Answers s past (event.BadMessage stream.Watch member) (refused (StreamState stream.Watch false))
  watch_bad_unopened member is = sym (ap (bad_turn stream.Watch member) (watch_is false is))

  pub watch_bad_now : (member : List ℕ) → client.watch.is_open ≡ true → Answers s past (event.BadMessage stream.Watch member) (refused (BadMessage stream.Watch member))
  watch_bad_now member is = sym (ap (bad_turn stream.Watch member) (watch_is true is))

pub watch_closed_none : (s : State) (h : Steps) (status : RpcStatus) (opening : Bool) → (closed_turn s h stream.Watch status opening).commit ≡ None
watch_closed_none s h status true = refl
watch_closed_none s h status false = refl
