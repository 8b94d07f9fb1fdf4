-- a filter by which a target is reset
use Rattle.std.proofs.Common.{◌≡◌, ◌↔◌, ⊎_elim, inl, inr, ℕ, ◌<◌, ◌≤◌, ℤ, Bool, true, false, ◌&&◌, ◌||◌, not, IsTrue, List, [], ◌∷◌, length, Some, None, option_map, IfSome, if◌then◌else◌, Vec, Global, refl, sym, ap, subst, ◌∙◌}
use Rattle.std.proofs.lemmas.Bool.Decides.{Decides-int_eq}
use Rattle.std.specs.List.{AllZip, Contains}
use Rattle.std.specs.Ordering.{int_eq}
use Rattle.host_api.specs.Host.{View}
use Rattle.client_events.specs.Spelled.{IsSpelledMessage}
use Rattle.client_events.specs.declared.event.Event.TheVariants as event
use Rattle.listen_protocol.specs.Calls.{came}
use Rattle.listen_protocol.specs.Transcript.{is_asked_in}
use Rattle.limbo_listens.specs.Listens.{Listens, limbo_at}
use Rattle.listeners.specs.Table.{Table, target_of, viewed}
use Rattle.local_store.specs.Files.{Moves}
use Rattle.local_store.specs.State.{State, most_commits}
use Rattle.value_model.specs.declared.message.ExistenceFilter.{ExistenceFilter}
use Rattle.value_model.specs.declared.message.ListenResponse.{ListenResponse}
use Rattle.value_model.specs.declared.message.ListenResponse.TheVariants as sent
use Rattle.watch_aggregator.specs.Effects.{Gives, filter_effect}
use Rattle.watch_aggregator.specs.Standing.{StandsFor as AggregatorStandsFor}
use Rattle.watch_aggregator.specs.declared.effect.Effect.TheVariants as effect
use Rattle.write_pipeline.specs.Order.{outstanding}
use Rattle.client_turns.specs.Answers.{Answers}
use Rattle.client_turns.specs.Blanking.{blanked_state}
use Rattle.client_turns.specs.Hearing as hearing
use Rattle.client_turns.specs.Hearing.{Blanks, HaveRows, HeardTurn, IsAnyHeld}
use Rattle.client_turns.specs.Past.{Past, Turn, steps_of}
use Rattle.client_turns.specs.Settling.{current_with, HasTargetRow}
use Rattle.record_codec.specs.declared.commit.Commit.TheVariants.{Reset}
use Rattle.client_turns.specs.Asking.{resets_by}
use Rattle.client_turns.specs.LimboListens.{is_sought, limbo_of}
use Rattle.sync_engine.specs.Standing.{IsDue, Kept, StandsFor, Watches, standing_in}
use Rattle.sync_engine.specs.Stream.{Hears, Resets, resets_of}
use Rattle.sync_engine.specs.Telling.{HandsSettled, IsQuietOrAmong, IsShown, KeepsRest, MakesOne, MovesBy, Raises, ResetsAsDue}
use Rattle.client_turns.specs.Turn.{answered_next}
use Rattle.client_turns.specs.Turns.{after, refused}
use Rattle.client_turns.specs.Watching.{calls_of, current_keys, if_so, is_dropped_by, is_mismatch, is_offline, is_wanted, is_watched, listened, online_of}
use Rattle.sync_engine.specs.declared.out.Out.{Out}
use Rattle.sync_engine.specs.declared.out.Outcome.TheVariants.{Done}
use Rattle.client_turns.specs.declared.refusal.Refusal.TheVariants.{IdsSpent}
use Rattle.sync_engine.specs.declared.watch_stream.Due.{Due}
use Rattle.sync_engine.specs.declared.watch_stream.Due.TheVariants.{Nothing}
use Rattle.sync_engine.specs.declared.watch_stream.WatchStream.{WatchStream}
use Rattle.sync_engine.proofs.Committed.{makes_by, moves_by}
use Rattle.client_turns.proofs.Among.{one_among}
use Rattle.sync_engine.proofs.Emptied.{after_blank, batches_blank, blank_blanks, blank_drops, blank_resets, blank_turn, quiet_blank, rows_state, spent_blanks}
use Rattle.sync_engine.proofs.Following.{Follows}
use Rattle.sync_engine.proofs.Handing.{as_done, handed}
use Rattle.client_turns.proofs.Current.{current_held, if_so_more, if_so_none}
use Rattle.sync_engine.proofs.Turning.{among_or_not, stays_on}
use Rattle.client_turns.proofs.Wanted.{first_among}
use Rattle.client_turns.proofs.Given.{mismatch_filter, mismatch_is}

-- ---- what a target keeps while the client is online

and_true : (a b : Bool) → (a && b) ≡ true → (a && true) ≡ true
and_true true b is = refl
and_true false b is = is

pub kept_online : (x : ℤ) (past : Past) → if_so (is_wanted x past && true) (current_keys x past) ≡ current_keys x past
kept_online x past = if_so_more (is_wanted x past && not (is_offline (online_of past))) (is_wanted x past && true) (current_keys x past) (and_true (is_wanted x past) (not (is_offline (online_of past)))) (current_held x past)

-- ---- what the event comes to

module _ {client : Kept} {past : Past} (response : ListenResponse) (id : ℤ) (told count : ℕ) (rows : List ℕ) (stands : StandsFor client client.store.state past) (opening : client.watch.is_open ≡ true) (gives : Gives (calls_of past) response (effect.Mismatch id told count))
    (have : HaveRows client.store.state.rows (id ∷ []) rows) where
  mismatch_answers : (t : Turn) → Blanks client.store.state rows [] t → Answers client.store.state past (event.Watch response) t
  mismatch_answers t blanks = subst (λ (b : Bool). HeardTurn client.store.state past response b t) (sym (sym stands.watch.opening ∙ opening)) (hearing.mismatch id told count rows gives have blanks)

  pub mismatch_spent : IsAnyHeld client.store.state.rows rows → most_commits ≤ client.store.state.number → Answers client.store.state past (event.Watch response) (refused IdsSpent)
  mismatch_spent it many = mismatch_answers (refused IdsSpent) (spent_blanks client.store.state rows [] it many)

  pub makes_mismatch : (blanks : Bool) → blanks ≡ true → IsTrue blanks ↔ IsAnyHeld client.store.state.rows rows → (blanks ≡ true → client.store.state.number < most_commits) → MakesOne client.store.state past (event.Watch response)
  makes_mismatch blanks so tells left =
      makes_by (blank_turn blanks rows []) (Reset rows) (mismatch_answers (blank_turn blanks rows []) (blank_blanks client.store.state blanks rows [] tells left))
      (ap (λ b. if b then Some (Reset rows) else None) so)

  pub moves_mismatch : {before now : View} (blanks : Bool) → IsTrue blanks ↔ IsAnyHeld client.store.state.rows rows → (blanks ≡ true → client.store.state.number < most_commits) → Moves client.store.state (blanked_state blanks client.store.state rows) before now → MovesBy client.store.state past (event.Watch response) before now
  moves_mismatch {before} {now} blanks tells left moves =
      moves_by (blank_turn blanks rows []) (mismatch_answers (blank_turn blanks rows []) (blank_blanks client.store.state blanks rows [] tells left))
      (subst (λ (t : State). Moves client.store.state t before now) (sym (after_blank client.store.state blanks rows [])) moves)

module _ (old mid new : Kept) (past : Past) (f : ExistenceFilter) (id : ℤ) (told count : ℕ) (rows ids : List ℕ) (blanks : Bool) (heard : WatchStream)
    (stands : StandsFor old old.store.state past) (opening : old.watch.is_open ≡ true) (idle : old.watch.due ≡ Nothing) (spelled : IsSpelledMessage (sent.Filter f)) (is : effect.Mismatch id told count ≡ filter_effect (calls_of past) f)
    (have : HaveRows old.store.state.rows (id ∷ []) rows) (tells : IsTrue blanks ↔ IsAnyHeld old.store.state.rows rows) (left : blanks ≡ true → old.store.state.number < most_commits)
    (root : mid.root ≡ old.root) (state : mid.store.state ≡ blanked_state blanks old.store.state rows) (listeners : mid.listeners ≡ old.listeners) (held : mid.limbo ≡ old.limbo) (writes : mid.writes ≡ old.writes)
    (hears : Hears (sent.Filter f) old.watch heard) (resets : Resets id heard mid.watch)
    (those : (q : ℕ) → Contains ids q ↔ (target_of old.listeners q ≡ Some id)) where
  abbrev next : Past
  next = answered_next old.store.state past (event.Watch (sent.Filter f)) (blank_turn blanks rows [])

  current : (x : ℤ) (b : Bool) → int_eq id x ≡ b → (if b then None else standing_in heard.current.targets.items x) ≡ option_map current_with (current_keys x next)
  current x b at =
      let k = current_keys x past in
      let now : (is_mismatch (calls_of past) (sent.Filter f) x || is_dropped_by (if blanks then Some (Reset rows) else None) x) ≡ b = blank_drops blanks rows x (is_mismatch (calls_of past) (sent.Filter f) x) ∙ mismatch_is (calls_of past) f id told count is x ∙ at in
      by b refl ∙ sym (ap (λ m. option_map current_with (if_so (is_wanted x past && true) (if m then None else current_keys x past))) now)
    where
      by : (c : Bool) → b ≡ c → (if b then None else standing_in heard.current.targets.items x) ≡ option_map current_with (if_so (is_wanted x past && true) (if b then None else current_keys x past))
      by true so =
          ap (λ c. if c then None else standing_in heard.current.targets.items x) so
          ∙ sym (ap (λ c. option_map current_with (if_so (is_wanted x past && true) (if c then None else current_keys x past))) so ∙ ap (option_map current_with) (if_so_none (is_wanted x past && true)))
      by false so =
          ap (λ c. if c then None else standing_in heard.current.targets.items x) so
          ∙ ap (λ (c : _). standing_in c.targets.items x) hears.current ∙ stands.watch.current x ∙ ap (option_map current_with) (sym (kept_online x past))
          ∙ sym (ap (λ c. option_map current_with (if_so (is_wanted x past && true) (if c then None else current_keys x past))) so)

  due : is_watched past ≡ true → (x : ℤ) → is_asked_in x (calls_of past) ≡ is_sought x past (limbo_of past)
  due opened x = ⊎_elim (λ was. absurd (subst (λ (d : Due). IsDue past (limbo_of past) d x) idle was)) (λ asks. asks) (stands.watch.due opened x)

  watches : Watches mid.watch (answered_next old.store.state past (event.Watch (sent.Filter f)) (blank_turn blanks rows [])) (limbo_of past)
  watches = record {
    opening = resets.opening ∙ hears.opening ∙ stands.watch.opening;
    calls = subst (λ (a : _). AggregatorStandsFor a (came (sent.Filter f) ∷ calls_of past)) (sym resets.aggregator) (hears.calls (calls_of past) stands.watch.calls);
    online = resets.online ∙ hears.online;
    current = λ x. resets.current x ∙ current x (int_eq id x) refl;
    spelled = (spelled, stands.watch.spelled);
    due = λ opened x. inr (due opened x);
  }

  same_after : after old.store.state (blank_turn blanks rows []).commit ≡ blanked_state blanks old.store.state rows
  same_after = after_blank old.store.state blanks rows []

  follows : Follows mid (after old.store.state (blank_turn blanks rows []).commit) (answered_next old.store.state past (event.Watch (sent.Filter f)) (blank_turn blanks rows [])) (limbo_of past)
  follows = record {
    state = state ∙ sym same_after;
    listeners = λ q. ap (λ (t : Table). viewed t q) listeners ∙ stands.listeners q;
    targets = λ q. ap (λ (t : Table). target_of t q) listeners ∙ stands.targets q;
    rows = λ q. subst (λ (t : State). IfSome (listened q past) (HasTargetRow t.rows)) (sym same_after) (rows_state old.store.state blanks rows (listened q past) (stands.rows q));
    unshown = λ q none. ap (λ (l : Listens). limbo_at l q) held ∙ stands.unshown q none;
    limbo_is = ap (λ (l : Listens). l.limbo) held ∙ stands.limbo_is;
    sound = stands.sound;
    watch = watches;
    writes = stays_on (sym writes) stands.writes;
    pending = subst (λ (n : ℕ). outstanding (steps_of past) ≤ n) (ap length (sym (batches_blank old.store.state blanks rows)) ∙ ap (λ (t : State). length t.batches) (sym same_after)) stands.pending;
  }

  -- a listener of another target stays quiet
  quiet_or : IsQuietOrAmong ids mid
  quiet_or q view there = ⊎_elim inl
      (λ never. inr (quiet_blank old mid past blanks rows stands root state (resets.online ∙ hears.online) q view (ap (λ (t : Table). viewed t q) (sym listeners) ∙ there) (ap (λ (t : Table). target_of t q) listeners) (keeps never) (ap (λ (l : Listens). limbo_at l q) held)))
      (among_or_not ids q)
    where
      keeps : (Contains ids q → ⊥) → (x : ℤ) → target_of old.listeners q ≡ Some x → standing_in mid.watch.current.targets.items x ≡ standing_in old.watch.current.targets.items x
      keeps never x at = resets.current x ∙ by (int_eq id x) refl ∙ ap (λ (c : _). standing_in c.targets.items x) hears.current
        where
          by : (b : Bool) → int_eq id x ≡ b → (if b then None else standing_in heard.current.targets.items x) ≡ standing_in heard.current.targets.items x
          by true same = absurd (never ((those q).1 (at ∙ ap Some (sym ((Decides-int_eq id x).0 same)))))
          by false other = refl

  as_due : new.watch ≡ mid.watch → ResetsAsDue past (event.Watch (sent.Filter f)) (if blanks then Some (Reset rows) else None) new
  as_due same t = (
    λ so. subst (λ (l : List ℤ). Contains l t) (sym due_is) (subst (Contains (id ∷ [])) ((Decides-int_eq id t).0 (sym tells_is ∙ so)) (first_among id [])),
    λ now. tells_is ∙ (Decides-int_eq id t).1 (one_among id t (subst (λ (l : List ℤ). Contains l t) due_is now)),
  )
    where
      due_is : resets_of new.watch.due ≡ id ∷ []
      due_is = ap (λ (w : WatchStream). resets_of w.due) same ∙ resets.due

      tells_is : resets_by (event.Watch (sent.Filter f)) (if blanks then Some (Reset rows) else None) past t ≡ int_eq id t
      tells_is = blank_resets blanks rows past t (is_mismatch (calls_of past) (sent.Filter f) t) ∙ mismatch_is (calls_of past) f id told count is t

  hands_filter : {before : List Out} {vec : Vec Out Global} → KeepsRest mid new → (IsQuietOrAmong ids mid → Raises mid new before vec.items) → before ≡ [] → HandsSettled old.store.state past (event.Watch (sent.Filter f)) (Done vec) new
  hands_filter {before} {vec} rest raises begins =
      as_done refl (as_due rest.watch)
      (handed old.store.state past (event.Watch (sent.Filter f)) (blank_turn blanks rows []) mid new before vec.items
      (mismatch_answers (sent.Filter f) id told count rows stands opening is have (blank_turn blanks rows []) (blank_blanks old.store.state blanks rows [] tells left))
      refl follows rest (raises quiet_or) (λ q. refl)
      (subst (λ (os : List Out). AllZip (IsShown new) os []) (sym begins) tt))

-- the target is reset
pub hands_mismatch : {old new : Kept} (mid : Kept) {past : Past} {before : List Out} {vec : Vec Out Global} {given : List ℕ} (response : ListenResponse) (id : ℤ) (told count : ℕ) (rows ids : List ℕ) (blanks : Bool) (heard : WatchStream)
    → StandsFor old old.store.state past → old.watch.is_open ≡ true → old.watch.due ≡ Nothing → IsSpelledMessage response → Gives (calls_of past) response (effect.Mismatch id told count)
    → HaveRows old.store.state.rows (id ∷ []) rows → IsTrue blanks ↔ IsAnyHeld old.store.state.rows rows → (blanks ≡ true → old.store.state.number < most_commits)
    → mid.root ≡ old.root → mid.store.state ≡ blanked_state blanks old.store.state rows → mid.listeners ≡ old.listeners → mid.limbo ≡ old.limbo → mid.writes ≡ old.writes
    → Hears response old.watch heard → Resets id heard mid.watch → ((q : ℕ) → Contains ids q ↔ (target_of old.listeners q ≡ Some id))
    → KeepsRest mid new → given ≡ ids → (IsQuietOrAmong given mid → Raises mid new before vec.items) → before ≡ [] → HandsSettled old.store.state past (event.Watch response) (Done vec) new
hands_mismatch {old} {new} mid {past} {before} {vec} {given} response id told count rows ids blanks heard stands opening idle spelled gives have tells left root state listeners held writes hears resets those rest same raises begins =
    let found = mismatch_filter (calls_of past) response id told count gives in
    subst (λ (r : ListenResponse). HandsSettled old.store.state past (event.Watch r) (Done vec) new) (sym found.1)
    (hands_filter old mid new past found.0 id told count rows ids blanks heard stands opening idle (subst IsSpelledMessage found.1 spelled) found.2 have tells left root state listeners held writes (subst (λ (r : ListenResponse). Hears r old.watch heard) found.1 hears) resets those rest (subst (λ (l : List ℕ). IsQuietOrAmong l mid → Raises mid new before vec.items) same raises) begins)
