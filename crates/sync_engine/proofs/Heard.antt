-- messages on the stream of listeners that change nothing durable
use Rattle.std.proofs.Common.{◌≡◌, ◌≢◌, ◌↔◌, ◌⊎◌, ⊎_elim, inl, inr, ℕ, ℤ, pos, ◌-◌, Bool, true, false, ◌&&◌, ◌||◌, ◌==◌, not, List, [], ◌∷◌, length, suc, zero, Option, Some, None, option_map, is_some, IsTrue, IsSome, if◌then◌else◌, Vec, Global, refl, sym, ap, subst, ◌∙◌, arith}
use Rattle.std.proofs.lemmas.Bool.{and_parts, ne_eqb, true≢false}
use Rattle.std.proofs.lemmas.Bool.Decides.{Decides-int_eq}
use Rattle.std.proofs.lemmas.Option.{none-some}
use Rattle.std.proofs.Math.Nat.{suc-ne-zero}
use Rattle.std.specs.List.{AllZip, filter, slice_get}
use Rattle.std.specs.Ordering.{int_eq}
use Rattle.client_events.specs.Spelled.{IsSpelledMessage}
use Rattle.client_events.specs.declared.event.Event.TheVariants as event
use Rattle.limbo_resolver.specs.Limbo.{Limbo}
use Rattle.listen_protocol.specs.Calls.{Calls, came, changes, is_remove, is_of, lists, skipped}
use Rattle.listen_protocol.specs.ToldKeys.{told_keys}
use Rattle.listen_protocol.specs.Transcript.{counts, is_asked_in, is_live, is_wanted as is_wanted_in, open_count}
use Rattle.local_store.specs.State.{State}
use Rattle.target_cache.specs.Cache.{id_at}
use Rattle.target_cache.specs.declared.row.Row.{Row}
use Rattle.value_model.specs.declared.message.ListenResponse.{ListenResponse}
use Rattle.value_model.specs.declared.message.ListenResponse.TheVariants as message
use Rattle.value_model.specs.declared.message.StreamName.TheVariants as stream
use Rattle.value_model.specs.declared.timestamp.Timestamp.{Timestamp}
use Rattle.watch_aggregator.specs.Effects.{Gives, GivesTarget, IsEnded, Refuses}
use Rattle.watch_aggregator.specs.Standing.{StandsFor as AggregatorStandsFor}
use Rattle.watch_aggregator.specs.declared.effect.Effect.TheVariants as effect
use Rattle.watch_aggregator.specs.declared.effect.WatchFault.TheVariants as fault
use Rattle.watch_aggregator.specs.declared.effect.WatchMember.{WatchMember}
use Rattle.client_turns.specs.Answers.{Answers}
use Rattle.client_turns.specs.Hearing.{HeardTurn, IsHeard, IsOld, fails, nothing, old_point, watch_member_name}
use Rattle.client_turns.specs.Past.{Past, Turn}
use Rattle.client_turns.specs.Settling.{IsHeldFor, MayStart, current_with, stance_by}
use Rattle.client_turns.specs.LimboListens.{heard_limbo, limbo_of}
use Rattle.sync_engine.specs.Standing.{IsDue, Kept, StandsFor, Watches, limbo_in, stance_in, standing_in}
use Rattle.sync_engine.specs.Stream.{Hears, Skips, resets_of}
use Rattle.sync_engine.specs.Telling.{HandsSettled, IsShown, Loses, with_watch}
use Rattle.client_turns.specs.Turn.{answered_next}
use Rattle.client_turns.specs.Turns.{answered, refused}
use Rattle.client_turns.specs.Watching.{calls_of, current_keys, if_so, is_mismatch, is_offline, is_point, is_wanted, online_of, told_after}
use Rattle.client_turns.specs.declared.online.OnlineState.TheVariants.{Online}
use Rattle.sync_engine.specs.declared.out.Out.{Out}
use Rattle.sync_engine.specs.declared.out.Outcome.TheVariants.{Done, Refused}
use Rattle.client_turns.specs.declared.refusal.Refusal.TheVariants.{BadMessage, StreamState}
use Rattle.sync_engine.specs.declared.watch_stream.Due.TheVariants.{Nothing}
use Rattle.sync_engine.specs.declared.watch_stream.WatchStream.{WatchStream}
use Rattle.sync_engine.proofs.Following.{AreQuiet, are_quiet}
use Rattle.sync_engine.proofs.Handing.{as_done, as_refused, handed, keeps_all, no_reset, raises_none}
use Rattle.client_turns.proofs.Current.{current_held, offline_current}
use Rattle.sync_engine.proofs.Quiet.{quiet_falls}
use Rattle.sync_engine.proofs.Passing.{due_still}
use Rattle.sync_engine.proofs.Streamed.{IsOfWatch, follows_watch, hands_lost, lost_due}
use Rattle.client_turns.proofs.Lists.{filter_all}

-- ---- whether a row is held

held_at : (t : ℤ) (rows : List Row) (f : ℕ → ℤ) → (b : Bool) × (IsTrue b ↔ ((place : ℕ) × ((row : Row) × ((t ≡ f place) × ((slice_get rows place ≡ Some row) × IsSome row.held)))))
held_at t [] f = (false, (λ is. absurd (true≢false (sym is)), λ it. absurd (none-some it.1.0 it.1.1.1.0)))
held_at t (row ∷ rows) f = by (int_eq t (f 0)) refl (is_some row.held) refl (held_at t rows (λ p. f (suc p)))
  where
    P : List Row → (ℕ → ℤ) → Type 0
    P rs g = (place : ℕ) × ((r : Row) × ((t ≡ g place) × ((slice_get rs place ≡ Some r) × IsSome r.held)))

    later : P rows (λ p. f (suc p)) → P (row ∷ rows) f
    later it = (suc it.0, it.1)

    down : (a h : Bool) → int_eq t (f 0) ≡ a → is_some row.held ≡ h → (a && h) ≡ false → P (row ∷ rows) f → P rows (λ p. f (suc p))
    down a h at held not_so (zero, (r, (is, (there, some)))) =
        let one : row ≡ r = cc in
        let here : int_eq t (f 0) ≡ true = (Decides-int_eq t (f 0)).1 is in
        absurd (true≢false (sym (ap (λ b. b && h) (sym at ∙ here) ∙ sym held ∙ ap (λ (x : Row). is_some x.held) one ∙ some) ∙ not_so))
    down a h at held not_so (suc place, rest) = (place, rest)

    by : (a : Bool) → int_eq t (f 0) ≡ a → (h : Bool) → is_some row.held ≡ h → (b : Bool) × (IsTrue b ↔ P rows (λ p. f (suc p))) → (b : Bool) × (IsTrue b ↔ P (row ∷ rows) f)
    by true at true held rest = (true, (λ is. (zero, (row, ((Decides-int_eq t (f 0)).0 at, (refl, held)))), λ it. refl))
    by true at false held rest = (rest.0, (λ is. later (rest.1.0 is), λ it. rest.1.1 (down true false at held refl it)))
    by false at h held rest = (rest.0, (λ is. later (rest.1.0 is), λ it. rest.1.1 (down false h at held refl it)))

pub decide_held : (rows : List Row) (target : Option ℤ) → (b : Bool) × (IsTrue b ↔ IsHeldFor rows target)
decide_held rows None = (false, (λ is. absurd (true≢false (sym is)), λ never. absurd never))
decide_held rows (Some t) =
    let it = held_at t rows (λ p. pos (id_at p)) in (
      it.0,
      (
        λ is. let found = it.1.0 is in record { row = found.1.0; of_id = record { place = found.0; is = found.1.1.0; there = found.1.1.1.0 }; held = found.1.1.1.1 },
        λ held. it.1.1 (held.of_id.place, (held.row, (held.of_id.is, (held.of_id.there, held.held)))),
      ),
    )

-- a client that is online has listeners as quiet as before
online_quiet : (client : Kept) (lost : WatchStream) → lost.online ≡ Online → lost.current ≡ client.watch.current → AreQuiet client → AreQuiet (with_watch client lost)
online_quiet client lost online current quiet id view there =
    let may = decide_held client.store.state.rows (stance_in client id).target in
    quiet_falls client.root client.store.state client.store.state (stance_in client id) (stance_in (with_watch client lost) id) (limbo_in client id) view (λ key concerns. refl) (λ key concerns. (λ it. it, λ it. it)) standing falls may.0 start (quiet id view there)
  where
    standing : (stance_in (with_watch client lost) id).standing ≡ (stance_in client id).standing
    standing = λ i. (stance_by (Rattle.listeners.specs.Table.target_of client.listeners id) (standing_in (current i).targets.items) lost.online).standing

    not_off : (stance_in (with_watch client lost) id).offline ≡ false
    not_off = ap is_offline online

    falls : IsHeldFor client.store.state.rows (stance_in (with_watch client lost) id).target ⊎ ((stance_in (with_watch client lost) id).offline ≡ true) → IsHeldFor client.store.state.rows (stance_in client id).target ⊎ ((stance_in client id).offline ≡ true)
    falls it = ⊎_elim inl (λ off. absurd (true≢false (sym off ∙ not_off))) it

    start : MayStart client.store.state (stance_in (with_watch client lost) id) (decide_held client.store.state.rows (stance_in client id).target).0
    start = let may = decide_held client.store.state.rows (stance_in client id).target in (λ is. inl (may.1.0 is), λ it. may.1.1 (⊎_elim (λ held. held) (λ off. absurd (true≢false (sym off ∙ not_off))) it))

-- ---- what a message is

-- what gives a point is one, and what gives nothing is none
pub point_is : (h : Calls) (response : ListenResponse) (at : Timestamp) → Gives h response (effect.Point at) → is_point response ≡ true
point_is h (message.Target change) at gives = ⊎_elim
    (λ ended. absurd ended.1)
    (λ timed. let it = timed.1 in (λ i. (length (it.all i) == 0) && is_some (it.time i)))
    gives
point_is h (message.Filter filter) at gives = absurd (by (counts filter.target_id h && not (length (told_keys filter.target_id h) == filter.count)) gives)
  where
    by : (b : Bool) → effect.Point at ≡ (if b then effect.Mismatch filter.target_id (length (told_keys filter.target_id h)) filter.count else effect.Nothing) → ⊥
    by true is = cc
    by false is = cc
point_is h (message.Change change) at gives = absurd (cc)
point_is h (message.Delete delete) at gives = absurd (cc)
point_is h (message.Remove remove) at gives = absurd (cc)

pub nothing_is : (h : Calls) (response : ListenResponse) → Gives h response effect.Nothing → is_point response ≡ false
nothing_is h (message.Target change) gives = by change.target_ids refl change.read_time refl gives
  where
    by : (ids : List ℤ) → change.target_ids ≡ ids → (time : Option Timestamp) → change.read_time ≡ time → GivesTarget h change effect.Nothing → ((length change.target_ids == 0) && is_some change.read_time) ≡ false
    by (t ∷ ids) is time at it = ap (λ l. (length l == 0) && is_some change.read_time) is ∙ ap (λ b. b && is_some change.read_time) (ne_eqb (suc (length ids)) 0 (suc-ne-zero (length ids)))
    by [] is None at it = (λ i. (length (is i) == 0) && is_some (at i))
    by [] is (Some time) at it = ⊎_elim (λ ended. absurd (ended.1.0 is)) (λ timed. absurd (timed.1 time (record { all = is; time = at }))) it
nothing_is h (message.Filter filter) gives = refl
nothing_is h (message.Change change) gives = refl
nothing_is h (message.Delete delete) gives = refl
nothing_is h (message.Remove remove) gives = refl

-- only a filter whose count differs resets a target
pub no_mismatch : (h : Calls) (response : ListenResponse) → Gives h response effect.Nothing → (t : ℤ) → is_mismatch h response t ≡ false
no_mismatch h (message.Target change) gives t = refl
no_mismatch h (message.Change change) gives t = refl
no_mismatch h (message.Delete delete) gives t = refl
no_mismatch h (message.Remove remove) gives t = refl
no_mismatch h (message.Filter filter) gives t = by (int_eq filter.target_id t) refl
  where
    differs : ℤ → Bool
    differs x = counts x h && not (length (told_keys x h) == filter.count)

    agrees : (b : Bool) → effect.Nothing ≡ (if b then effect.Mismatch filter.target_id (length (told_keys filter.target_id h)) filter.count else effect.Nothing) → b ≡ false
    agrees true is = absurd (cc)
    agrees false is = refl

    by : (b : Bool) → int_eq filter.target_id t ≡ b → (b && (counts t h && not (length (told_keys t h) == filter.count))) ≡ false
    by false other = refl
    by true same = ap (λ x. counts x h && not (length (told_keys x h) == filter.count)) (sym ((Decides-int_eq filter.target_id t).0 same)) ∙ agrees (counts filter.target_id h && not (length (told_keys filter.target_id h) == filter.count)) gives

-- a point resets none
pub point_mismatch : (response : ListenResponse) → is_point response ≡ true → (h : Calls) (t : ℤ) → is_mismatch h response t ≡ false
point_mismatch (message.Target change) is h t = refl
point_mismatch (message.Filter filter) is h t = absurd (true≢false (sym is))
point_mismatch (message.Change change) is h t = absurd (true≢false (sym is))
point_mismatch (message.Delete delete) is h t = absurd (true≢false (sym is))
point_mismatch (message.Remove remove) is h t = absurd (true≢false (sym is))

-- ---- what is asked behind a message

-- a message that ends no live incarnation leaves what is asked
pub asked_unended : (t : ℤ) (response : ListenResponse) (h : Calls) → (changes is_remove response t ≡ true → is_live t h ≡ false) → is_asked_in t (came response ∷ h) ≡ is_asked_in t h
asked_unended t response h unended = by (changes is_remove response t) refl (is_wanted_in t h) refl
  where
    by : (b : Bool) → changes is_remove response t ≡ b → (w : Bool) → is_wanted_in t h ≡ w → (is_wanted_in t h && not ((if b then open_count t h - 1 else open_count t h) == 0)) ≡ (is_wanted_in t h && not (open_count t h == 0))
    by false is w wanted = refl
    by true is false wanted = ap (λ x. x && not ((open_count t h - 1) == 0)) wanted ∙ sym (ap (λ x. x && not (open_count t h == 0)) wanted)
    by true is true wanted = ap (λ b. is_wanted_in t h && not b) (count (open_count t h) (open_count t h == 1) refl (sym (ap (λ x. x && (open_count t h == 1)) wanted) ∙ unended is))
      where
        count : (n : ℕ) (one : Bool) → (n == 1) ≡ one → one ≡ false → ((n - 1) == 0) ≡ (n == 0)
        count zero one at not_one = refl
        count (suc zero) one at not_one = absurd (true≢false (at ∙ not_one))
        count (suc (suc n)) one at not_one = ne_eqb (suc (suc n) - 1) 0 (λ same. absurd (omega (arith, same))) ∙ sym (ne_eqb (suc (suc n)) 0 (suc-ne-zero (suc n)))

-- a message that gives no end ends none
pub nothing_unended : (h : Calls) (response : ListenResponse) → Gives h response effect.Nothing → (t : ℤ) → changes is_remove response t ≡ true → is_live t h ≡ false
nothing_unended h (message.Target change) gives t is =
    let p = and_parts (is_remove change.kind) (is_of change.target_ids t) is in
    ⊎_elim (λ ended. by (is_live t h) refl (ended.1.1 t) (ended.1.0) p.1) (λ timed. absurd (true≢false (sym p.0 ∙ timed.0))) gives
  where
    listed : (ids : List ℤ) → ids ≢ [] → is_of ids t ≡ true → lists ids t ≡ true
    listed [] some of_it = absurd (some refl)
    listed (x ∷ ids) some of_it = sym (ap (λ b. b || lists (x ∷ ids) t) (ne_eqb (suc (length ids)) 0 (suc-ne-zero (length ids)))) ∙ of_it

    by : (b : Bool) → is_live t h ≡ b → ¬ (IsEnded h change.target_ids t) → change.target_ids ≢ [] → is_of change.target_ids t ≡ true → b ≡ false
    by false live never some of_it = refl
    by true live never some of_it = absurd (never (record { listed = listed change.target_ids some of_it; live = live }))
nothing_unended h (message.Filter filter) gives t is = absurd (true≢false (sym is))
nothing_unended h (message.Change change) gives t is = absurd (true≢false (sym is))
nothing_unended h (message.Delete delete) gives t is = absurd (true≢false (sym is))
nothing_unended h (message.Remove remove) gives t is = absurd (true≢false (sym is))

pub point_unended : (h : Calls) (response : ListenResponse) (at : Timestamp) → Gives h response (effect.Point at) → (t : ℤ) → changes is_remove response t ≡ true → is_live t h ≡ false
point_unended h (message.Target change) at gives t is = let p = and_parts (is_remove change.kind) (is_of change.target_ids t) is in ⊎_elim (λ ended. absurd ended.1) (λ timed. absurd (true≢false (sym p.0 ∙ timed.0))) gives
point_unended h (message.Filter filter) at gives t is = absurd (true≢false (sym is))
point_unended h (message.Change change) at gives t is = absurd (true≢false (sym is))
point_unended h (message.Delete delete) at gives t is = absurd (true≢false (sym is))
point_unended h (message.Remove remove) at gives t is = absurd (true≢false (sym is))

-- ---- the listens of documents in limbo behind a message

-- they go on where the message ends no live incarnation
pub heard_still : (h : Calls) (response : ListenResponse) (limbo : Limbo) → ((t : ℤ) → changes is_remove response t ≡ true → is_live t h ≡ false) → limbo ≡ heard_limbo h response limbo
heard_still h (message.Target change) limbo unended = by (is_remove change.kind) refl
  where
    stays : is_remove change.kind ≡ true → (t : ℤ) → not (lists change.target_ids t && is_live t h) ≡ true
    stays ends t = listed (lists change.target_ids t) refl
      where
        or_true : (b : Bool) → (b || true) ≡ true
        or_true true = refl
        or_true false = refl

        listed : (b : Bool) → lists change.target_ids t ≡ b → not (b && is_live t h) ≡ true
        listed false is = refl
        listed true is = ap not (unended t (ap (λ b. b && is_of change.target_ids t) ends ∙ ap (λ b. (length change.target_ids == 0) || b) is ∙ or_true (length change.target_ids == 0)))

    by : (b : Bool) → is_remove change.kind ≡ b → limbo ≡ (if b then record limbo { running = filter (λ p. not (lists change.target_ids p.0 && is_live p.0 h)) limbo.running } else limbo)
    by false is = refl
    by true is = ap (λ l. record limbo { running = l }) (sym (filter_all (λ p. not (lists change.target_ids p.0 && is_live p.0 h)) limbo.running (λ p. stays is p.0)))
heard_still h (message.Filter f) limbo unended = refl
heard_still h (message.Change change) limbo unended = refl
heard_still h (message.Delete delete) limbo unended = refl
heard_still h (message.Remove remove) limbo unended = refl

-- ---- the stream behind a message without a commit

-- what was current stays so while the client is online
current_online : (x : ℤ) (past : Past) → if_so (is_wanted x past && true) (current_keys x past) ≡ current_keys x past
current_online x past = by (is_offline (online_of past)) refl
  where
    none : (c : Bool) → if_so c None ≡ None
    none true = refl
    none false = refl

    by : (b : Bool) → is_offline (online_of past) ≡ b → if_so (is_wanted x past && true) (current_keys x past) ≡ current_keys x past
    by true off = ap (if_so (is_wanted x past && true)) (offline_current x past off) ∙ none (is_wanted x past && true) ∙ sym (offline_current x past off)
    by false on = ap (λ c. if_so (is_wanted x past && not c) (current_keys x past)) (sym on) ∙ current_held x past

no_commit : (b : Bool) → (b && false) ≡ false
no_commit true = refl
no_commit false = refl

module _ (s : State) (past : Past) (response : ListenResponse) (old new : WatchStream) (it : Watches old past (limbo_of past)) (opening : old.is_open ≡ true) (spelled : IsSpelledMessage response)
    (same_open : new.is_open ≡ old.is_open) (online : new.online ≡ Online) (current : new.current ≡ old.current) (due : new.due ≡ old.due) (asked : (t : ℤ) → is_asked_in t (came response ∷ calls_of past) ≡ is_asked_in t (calls_of past)) where
  told_still : (x : ℤ) → ((is_point response && false) ≡ false) → is_mismatch (calls_of past) response x ≡ false → told_after x response None (calls_of past) (current_keys x past) ≡ current_keys x past
  told_still x not_point agrees = (λ i. if not_point i then Rattle.client_turns.specs.Watching.keys_at_point x (came response ∷ calls_of past) else if agrees i || false then None else current_keys x past)

  pub watches_heard : ((t : ℤ) → is_mismatch (calls_of past) response t ≡ false) → (calls : Calls) → calls_of (answered_next s past (event.Watch response) (answered [])) ≡ calls → AggregatorStandsFor new.aggregator calls → ((t : ℤ) → is_asked_in t calls ≡ is_asked_in t (came response ∷ calls_of past)) → Rattle.watch_points.specs.SpelledCalls.AreSpelledCalls calls
      → Watches new (answered_next s past (event.Watch response) (answered [])) (limbo_of past)
  watches_heard agrees calls are stands same spelled_calls = record {
    opening = same_open ∙ it.opening;
    calls = subst (AggregatorStandsFor new.aggregator) (sym are) stands;
    online = online;
    current = λ x. ap (λ (c : _). standing_in c.targets.items x) current ∙ it.current x ∙ ap (option_map current_with) (sym (ap (if_so (is_wanted x past && true)) (told_still x (no_commit (is_point response)) (agrees x)) ∙ current_online x past));
    spelled = subst Rattle.watch_points.specs.SpelledCalls.AreSpelledCalls (sym are) spelled_calls;
    due = λ opened x. ⊎_elim
        (λ is. inl (subst (λ (d : _). IsDue (answered_next s past (event.Watch response) (answered [])) (limbo_of past) d x) (sym due) (due_still past (answered_next s past (event.Watch response) (answered [])) (limbo_of past) x old.due refl is)))
        (λ asks. inr (ap (is_asked_in x) are ∙ same x ∙ asked x ∙ asks))
        (it.due opened x);
  }

-- ---- the turns

-- what comes on the open stream comes to what it is
pub heard_as : {client : Kept} {s : State} {past : Past} {t : Turn} (response : ListenResponse) → StandsFor client s past → client.watch.is_open ≡ true → IsHeard s past response t → Answers s past (event.Watch response) t
heard_as {client} {s} {past} {t} response stands opening is = subst (λ (b : Bool). HeardTurn s past response b t) (sym (sym stands.watch.opening ∙ opening)) is

module _ {old : Kept} {s : State} {past : Past} (vec : Vec Out Global) (response : ListenResponse) (lost : WatchStream) (stands : StandsFor old s past) (idle : old.watch.due ≡ Nothing) (opening : old.watch.is_open ≡ true) (spelled : IsSpelledMessage response) (none : vec.items ≡ []) where
  such : IsOfWatch s past (event.Watch response) (answered [])
  such = record { plain = λ id. refl; silent = refl; unmade = refl; steps = refl }

  hands_same : IsHeard s past response (answered []) → ((t : ℤ) → is_mismatch (calls_of past) response t ≡ false) → limbo_of past ≡ heard_limbo (calls_of past) response (limbo_of past) → lost.online ≡ Online → lost.current ≡ old.watch.current → lost.due ≡ old.watch.due → Watches lost (answered_next s past (event.Watch response) (answered [])) (limbo_of past)
      → HandsSettled s past (event.Watch response) (Done vec) (with_watch old lost)
  hands_same is agrees goes_on online current due watch =
      as_done refl (no_reset past (event.Watch response) None (with_watch old lost) (λ t. ap (λ b. b || false) (agrees t)) (ap resets_of (due ∙ idle)))
      (handed s past (event.Watch response) (answered []) (with_watch old lost) (with_watch old lost) vec.items vec.items (heard_as response stands opening is) refl
      (follows_watch old lost s past (event.Watch response) (answered []) stands such goes_on (subst (Watches lost (answered_next s past (event.Watch response) (answered []))) goes_on watch))
      keeps_all (raises_none vec.items (online_quiet old lost online current (are_quiet stands))) (λ id. refl) (subst (λ (os : List Out). AllZip (IsShown (with_watch old lost)) os []) (sym none) tt))

  pub hands_heard : Hears response old.watch lost → Gives (calls_of past) response effect.Nothing → HandsSettled s past (event.Watch response) (Done vec) (with_watch old lost)
  hands_heard hears gives =
      hands_same (nothing gives refl) (no_mismatch (calls_of past) response gives) (heard_still (calls_of past) response (limbo_of past) (nothing_unended (calls_of past) response gives)) hears.online hears.current hears.due
      (watches_heard s past response old.watch lost stands.watch opening spelled hears.opening hears.online hears.current hears.due
      (λ t. asked_unended t response (calls_of past) (nothing_unended (calls_of past) response gives t))
      (no_mismatch (calls_of past) response gives) (came response ∷ calls_of past) (ap (λ b. Rattle.client_turns.specs.Watching.passed b None (came response ∷ calls_of past)) (nothing_is (calls_of past) response gives))
      (hears.calls (calls_of past) stands.watch.calls) (λ t. refl) (spelled, stands.watch.spelled))

  pub hands_old : (mid : WatchStream) (at : Timestamp) → Hears response old.watch mid → Skips mid lost → Gives (calls_of past) response (effect.Point at) → IsOld s.last_read at → HandsSettled s past (event.Watch response) (Done vec) (with_watch old lost)
  hands_old mid at hears skips gives is_old =
      hands_same (old_point at gives is_old refl) agrees (heard_still (calls_of past) response (limbo_of past) (point_unended (calls_of past) response at gives)) (skips.rest.online ∙ hears.online) (skips.rest.current ∙ hears.current) (skips.rest.due ∙ hears.due)
      (watches_heard s past response old.watch lost stands.watch opening spelled (skips.rest.opening ∙ hears.opening) (skips.rest.online ∙ hears.online) (skips.rest.current ∙ hears.current) (skips.rest.due ∙ hears.due)
      (λ t. asked_unended t response (calls_of past) (point_unended (calls_of past) response at gives t))
      agrees (skipped ∷ came response ∷ calls_of past) (ap (λ b. Rattle.client_turns.specs.Watching.passed b None (came response ∷ calls_of past)) (point_is (calls_of past) response at gives))
      (skips.calls (came response ∷ calls_of past) (hears.calls (calls_of past) stands.watch.calls)) (λ t. refl) (spelled, stands.watch.spelled))
    where
      agrees : (t : ℤ) → is_mismatch (calls_of past) response t ≡ false
      agrees = point_mismatch response (point_is (calls_of past) response at gives) (calls_of past)

-- the message is refused: the stream is lost
pub hands_unheard : {old new : Kept} {s : State} {past : Past} (vec : Vec Out Global) (response : ListenResponse) (why : WatchMember) (name : List ℕ) → name ≡ watch_member_name why → StandsFor old s past → old.watch.due ≡ Nothing → old.watch.is_open ≡ true → Refuses (calls_of past) response (fault.BadMessage why) → Loses old new [] vec.items
    → HandsSettled s past (event.Watch response) (Refused (BadMessage stream.Watch name) vec) new
hands_unheard {old} {new} {s} {past} vec response why name is stands idle opening refuses lost =
    as_refused (BadMessage stream.Watch name) refl refl (lost_due lost idle)
    (hands_lost vec (event.Watch response) (refused (BadMessage stream.Watch name)) stands (record { plain = λ id. refl; silent = refl; unmade = refl; steps = refl }) refl refl
    (heard_as response stands opening (fails why refuses (ap (λ (n : List ℕ). refused (BadMessage stream.Watch n)) is))) lost)

pub heard_unopened : {client : Kept} {s : State} {past : Past} (response : ListenResponse) → StandsFor client s past → client.watch.is_open ≡ false → Answers s past (event.Watch response) (refused (StreamState stream.Watch false))
heard_unopened {client} {s} {past} response stands closed = subst (λ (b : Bool). HeardTurn s past response b (refused (StreamState stream.Watch false))) (sym (sym stands.watch.opening ∙ closed)) refl
