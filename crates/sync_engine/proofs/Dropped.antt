-- targets that the backend ended, with their listeners
use Rattle.std.proofs.Common.{◌≡◌, ◌≢◌, ◌↔◌, ⊎_elim, inr, ℕ, zero, suc, ◌-◌, ◌<◌, ◌≤◌, ℤ, nat_eq, Bool, true, false, ◌&&◌, ◌||◌, ◌==◌, not, IsTrue, List, [], ◌∷◌, map as each, length, Option, Some, None, option_map, is_some, IfSome, if◌then◌else◌, Vec, Global, refl, sym, ap, subst, ◌∙◌, arith}
use Rattle.std.proofs.lemmas.Bool.{and_parts, eqb-true, true≢false}
use Rattle.std.proofs.lemmas.Bool.Decides.{Decides-int_eq}
use Rattle.std.proofs.lemmas.Option.{none-some}
use Rattle.std.specs.List.{AllZip, Contains, filter, fold, list_any}
use Rattle.std.specs.Ordering.{int_eq}
use Rattle.host_api.specs.Host.{View}
use Rattle.client_events.specs.Spelled.{IsSpelledMessage}
use Rattle.client_events.specs.declared.event.Event.TheVariants as event
use Rattle.listen_protocol.specs.Calls.{Calls, came, changes, is_remove, lists}
use Rattle.listen_protocol.specs.Transcript.{is_asked_in, is_live, open_count, is_wanted as is_wanted_in}
use Rattle.limbo_resolver.specs.Laws.{IsSound}
use Rattle.limbo_resolver.specs.Limbo.{Key, Limbo, key_in}
use Rattle.listeners.specs.Table.{target_of, viewed}
use Rattle.local_store.specs.Files.{Moves}
use Rattle.local_store.specs.State.{State, most_commits}
use Rattle.record_codec.specs.declared.commit.Commit.{Commit}
use Rattle.record_codec.specs.declared.commit.Commit.TheVariants.{Reset}
use Rattle.value_model.specs.declared.document.RpcStatus.{RpcStatus}
use Rattle.value_model.specs.declared.message.ListenResponse.{ListenResponse}
use Rattle.value_model.specs.declared.message.ListenResponse.TheVariants as sent
use Rattle.value_model.specs.declared.message.TargetChange.{TargetChange}
use Rattle.views.specs.Viewed.{Viewed}
use Rattle.watch_aggregator.specs.Effects.{Gives}
use Rattle.watch_aggregator.specs.Standing.{StandsFor as AggregatorStandsFor}
use Rattle.watch_aggregator.specs.declared.effect.Effect.TheVariants as effect
use Rattle.write_pipeline.specs.Order.{Steps, outstanding}
use Rattle.client_turns.specs.Answers.{Answers}
use Rattle.client_turns.specs.Blanking.{blanked_state}
use Rattle.client_turns.specs.Hearing as hearing
use Rattle.client_turns.specs.Hearing.{AreDropped, AreListenersOf, Blanks, HaveRows, HeardTurn, IsAnyHeld}
use Rattle.client_turns.specs.Lines.{Line, error}
use Rattle.client_turns.specs.Past.{Past, Turn, is_refused_in, listener, raised_in, sent_in, steps_of, told as told_of, unless_refused}
use Rattle.client_turns.specs.Settling.{current_with, HasTargetRow}
use Rattle.client_turns.specs.LimboListens.{heard_limbo, is_running, is_sought, limbo_of, without_all}
use Rattle.sync_engine.specs.Standing.{IsDue, IsQuiet, Kept, StandsFor, StandsOn, Watches, limbo_in, stance_in, standing_in}
use Rattle.sync_engine.specs.Stream.{EndsAll, Hears, resets_of}
use Rattle.sync_engine.specs.Telling.{AreListenersIn, HandsSettled, IsShown, MakesOne, MovesBy, RemovesAll}
use Rattle.client_turns.specs.Turn.{answered_next}
use Rattle.client_turns.specs.Turns.{after, refused}
use Rattle.client_turns.specs.Watching.{calls_by, calls_of, current_keys, hears, if_so, is_point, is_dropped_by, is_wanted, is_watched, keys_at_point, listened, listened_in, passed, requested_by, told_after}
use Rattle.sync_engine.specs.declared.out.Out.{Out}
use Rattle.sync_engine.specs.declared.out.Out.TheVariants.{Error}
use Rattle.sync_engine.specs.declared.out.Outcome.TheVariants.{Done}
use Rattle.client_turns.specs.declared.refusal.Refusal.TheVariants.{IdsSpent}
use Rattle.sync_engine.specs.declared.watch_stream.Due.{Due}
use Rattle.sync_engine.specs.declared.watch_stream.Due.TheVariants.{Nothing}
use Rattle.sync_engine.specs.declared.watch_stream.WatchStream.{WatchStream}
use Rattle.client_turns.proofs.Among.{among_any, any_among}
use Rattle.sync_engine.proofs.Blanked.{if_or, nat_eq_turned}
use Rattle.sync_engine.proofs.Committed.{makes_by, moves_by}
use Rattle.sync_engine.proofs.Emptied.{after_blank, batches_blank, blank_blanks, blank_drops, blank_resets, blank_turn, quiet_blank, rows_state, spent_blanks}
use Rattle.sync_engine.proofs.Following.{AreQuiet, Follows}
use Rattle.sync_engine.proofs.Handing.{as_done, handed, keeps_all, no_reset, raises_none}
use Rattle.sync_engine.proofs.Mismatched.{kept_online}
use Rattle.client_turns.proofs.Current.{if_so_none, unwanted_current}
use Rattle.client_turns.proofs.Refused.{running_left, without_ids, without_sound}
use Rattle.sync_engine.proofs.Turning.{stays_on}
use Rattle.client_turns.proofs.Wanted.{any_at, first_among, later_among, same_truth, wanted_has, wanted_same}
use Rattle.client_turns.proofs.Given.{EndsTargets, ended_change}

-- ---- the lines

errors_left : {B : Type 0} (f : B → Line → B) → ((b : B) (id : ℕ) (t : RpcStatus) → f b (error id t) ≡ b) → (status : RpcStatus) (ids : List ℕ) (b : B) → fold f b (each (λ id. error id status) ids) ≡ b
errors_left f plain status [] b = refl
errors_left f plain status (id ∷ ids) b = ap (λ x. fold f x (each (λ n. error n status) ids)) (plain b id status) ∙ errors_left f plain status ids b

pub errors_raise : (q : ℕ) (status : RpcStatus) (ids : List ℕ) → raised_in q (each (λ id. error id status) ids) ≡ None
errors_raise q status [] = refl
errors_raise q status (id ∷ ids) = errors_raise q status ids

errors_refuse : (q : ℕ) (status : RpcStatus) (ids : List ℕ) → is_refused_in q (each (λ id. error id status) ids) ≡ list_any (nat_eq q) ids
errors_refuse q status [] = refl
errors_refuse q status (id ∷ ids) = λ i. nat_eq_turned id q i || errors_refuse q status ids i

errors_listened : (q : ℕ) (status : RpcStatus) (ids : List ℕ) (was : Option ℤ) → listened_in q (each (λ id. error id status) ids) was ≡ (if list_any (nat_eq q) ids then None else was)
errors_listened q status [] was = refl
errors_listened q status (id ∷ ids) was =
    errors_listened q status ids (if nat_eq id q then None else was) ∙ if_or (nat_eq id q) (list_any (nat_eq q) ids) None was
    ∙ ap (λ b. if b || list_any (nat_eq q) ids then None else was) (nat_eq_turned id q)

errors_send : (status : RpcStatus) (ids : List ℕ) (h : Steps) → sent_in (each (λ id. error id status) ids) h ≡ h
errors_send status [] h = refl
errors_send status (id ∷ ids) h = errors_send status ids h

pub errors_shown : (client : Kept) (status : RpcStatus) (ids : List ℕ) → AllZip (IsShown client) (each (λ id. Error id status) ids) (each (λ id. error id status) ids)
errors_shown client status [] = tt
errors_shown client status (id ∷ ids) = (refl, errors_shown client status ids)

unless_is : (b : Bool) (v : Option Viewed) → unless_refused b v ≡ (if b then None else v)
unless_is true v = refl
unless_is false v = refl

-- ---- lists

pub listed_among : (x : ℤ) (ids : List ℤ) → lists ids x ≡ true → Contains ids x
listed_among x [] is = absurd (true≢false (sym is))
listed_among x (n ∷ ids) is = go (listed_among x ids) (int_eq n x) refl is
  where
    go : (lists ids x ≡ true → Contains ids x) → (b : Bool) → int_eq n x ≡ b → (b || lists ids x) ≡ true → Contains (n ∷ ids) x
    go later true same so = subst (Contains (n ∷ ids)) ((Decides-int_eq n x).0 same) (first_among n ids)
    go later false other so = later_among n x ids (later so)

pub among_listed : (x : ℤ) (ids : List ℤ) → Contains ids x → lists ids x ≡ true
among_listed x ids there = any_at (λ n. int_eq n x) ids x there ((Decides-int_eq x x).1 refl)

pub no_key : (keys : List Key) → length keys ≡ 0 → keys ≡ []
no_key [] none = refl
no_key (key ∷ keys) none = absurd (omega (arith, none))

pub some_length : (keys : List Key) → keys ≢ [] → 0 < length keys
some_length [] some = absurd (some refl)
some_length (key ∷ keys) some = omega (arith)

pub some_key : (keys : List Key) → 0 < length keys → keys ≡ [] → ⊥
some_key [] some is = absurd (omega (arith, some))
some_key (key ∷ keys) some is = cc

-- ---- whether a target is asked then

not_zero : (n : ℕ) → (n ≡ 0 → ⊥) → (n == 0) ≡ false
not_zero n never = by (n == 0) refl
  where
    by : (b : Bool) → (n == 0) ≡ b → b ≡ false
    by true is = absurd (never (eqb-true n 0 is))
    by false is = refl

listed_some : (ids : List ℤ) (x : ℤ) → lists ids x ≡ true → (length ids == 0) ≡ false
listed_some [] x is = absurd (true≢false (sym is))
listed_some (n ∷ ids) x is = not_zero (length (n ∷ ids)) (λ none. omega (arith, none))

one_less : (w : Bool) (n : ℕ) → (w && (n == 1)) ≡ false → (w && not (n - 1 == 0)) ≡ (w && not (n == 0))
one_less false n is = refl
one_less true zero is = refl
one_less true (suc zero) is = absurd (true≢false is)
one_less true (suc (suc m)) is = ap not (not_zero (suc (suc m) - 1) (λ none. omega (arith, none)) ∙ sym (not_zero (suc (suc m)) (λ none. omega (arith, none))))

none_asked : (w : Bool) → (w && not (1 - 1 == 0)) ≡ false
none_asked true = refl
none_asked false = refl

module _ (h : Calls) (change : TargetChange) (ids : List ℤ) (ends : EndsTargets h change ids) where
  has_ids : (length change.target_ids == 0) ≡ false
  has_ids = listed_some change.target_ids ends.some.0 ((ends.each ends.some.0).0 ends.some.1).listed

  no_point : is_point (sent.Target change) ≡ false
  no_point = ap (λ b. b && is_some change.read_time) has_ids

  changes_is : (x : ℤ) → changes is_remove (sent.Target change) x ≡ lists change.target_ids x
  changes_is x = ap (λ b. b && ((length change.target_ids == 0) || lists change.target_ids x)) ends.removes ∙ ap (λ b. b || lists change.target_ids x) has_ids

  -- an ended target isn't asked
  asked_ended : (x : ℤ) → Contains ids x → is_asked_in x (came (sent.Target change) ∷ h) ≡ false
  asked_ended x there =
      let it = (ends.each x).0 there in
      let parts = and_parts (is_wanted_in x h) (open_count x h == 1) it.live in
      ap (λ b. is_wanted_in x h && not ((if b then open_count x h - 1 else open_count x h) == 0)) (changes_is x ∙ it.listed)
      ∙ ap (λ n. is_wanted_in x h && not (n - 1 == 0)) (eqb-true (open_count x h) 1 parts.1) ∙ none_asked (is_wanted_in x h)

  -- any other is asked as before
  asked_still : (x : ℤ) → (Contains ids x → ⊥) → is_asked_in x (came (sent.Target change) ∷ h) ≡ is_asked_in x h
  asked_still x never = ap (λ b. is_wanted_in x h && not ((if b then open_count x h - 1 else open_count x h) == 0)) (changes_is x) ∙ by (lists change.target_ids x) refl
    where
      by : (b : Bool) → lists change.target_ids x ≡ b → (is_wanted_in x h && not ((if b then open_count x h - 1 else open_count x h) == 0)) ≡ is_asked_in x h
      by false other = refl
      by true listed = one_less (is_wanted_in x h) (open_count x h) (not_live (is_live x h) refl)
        where
          not_live : (b : Bool) → is_live x h ≡ b → b ≡ false
          not_live true live = absurd (never ((ends.each x).1 (record { listed = listed; live = live })))
          not_live false dead = refl

-- ---- what the event comes to

module _ {client : Kept} {past : Past} (response : ListenResponse) (ids : List ℤ) (status : RpcStatus) (stands : StandsFor client client.store.state past) (opening : client.watch.is_open ≡ true) (gives : Gives (calls_of past) response (effect.Ended ids status)) where
  end_answers : (rows listeners : List ℕ) (t : Turn) → AreDropped (limbo_of past) ids [] → HaveRows client.store.state.rows ids rows → AreListenersOf past ids listeners → Blanks client.store.state rows (each (λ id. error id status) listeners) t → Answers client.store.state past (event.Watch response) t
  end_answers rows listeners t none have are blanks = subst (λ (b : Bool). HeardTurn client.store.state past response b t) (sym (sym stands.watch.opening ∙ opening)) (hearing.ended ids status rows listeners gives none have are blanks)

  none_dropped : AreDropped client.limbo.limbo ids [] → AreDropped (limbo_of past) ids []
  none_dropped none = subst (λ (l : Limbo). AreDropped l ids []) stands.limbo_is none

  pub listeners_of_past : (those : List ℕ) → AreListenersIn client.listeners ids those → AreListenersOf past ids those
  listeners_of_past those are = record {
    ascending = are.ascending;
    each = λ l. (
      λ there. let it = (are.each l).0 there in (it.0, it.1, sym (stands.targets l) ∙ it.2),
      λ it. (are.each l).1 (it.0, it.1, stands.targets l ∙ it.2),
    );
  }

  pub end_spent : (rows those : List ℕ) → AreDropped client.limbo.limbo ids [] → HaveRows client.store.state.rows ids rows → AreListenersIn client.listeners ids those → IsAnyHeld client.store.state.rows rows → most_commits ≤ client.store.state.number → Answers client.store.state past (event.Watch response) (refused IdsSpent)
  end_spent rows those none have are it many = end_answers rows those (refused IdsSpent) (none_dropped none) have (listeners_of_past those are) (spent_blanks client.store.state rows (each (λ id. error id status) those) it many)

  pub makes_end : (rows those : List ℕ) (blanks : Bool) → blanks ≡ true → AreDropped client.limbo.limbo ids [] → HaveRows client.store.state.rows ids rows → AreListenersIn client.listeners ids those → IsTrue blanks ↔ IsAnyHeld client.store.state.rows rows → (blanks ≡ true → client.store.state.number < most_commits)
      → MakesOne client.store.state past (event.Watch response)
  makes_end rows those blanks so none have are tells left =
      let turn = blank_turn blanks rows (each (λ id. error id status) those) in
      makes_by turn (Reset rows) (end_answers rows those turn (none_dropped none) have (listeners_of_past those are) (blank_blanks client.store.state blanks rows (each (λ id. error id status) those) tells left))
      (ap (λ b. if b then Some (Reset rows) else None) so)

  pub moves_end : {before now : View} (rows those : List ℕ) (blanks : Bool) → AreDropped client.limbo.limbo ids [] → HaveRows client.store.state.rows ids rows → AreListenersIn client.listeners ids those → IsTrue blanks ↔ IsAnyHeld client.store.state.rows rows → (blanks ≡ true → client.store.state.number < most_commits)
      → Moves client.store.state (blanked_state blanks client.store.state rows) before now → MovesBy client.store.state past (event.Watch response) before now
  moves_end {before} {now} rows those blanks none have are tells left moves =
      moves_by (blank_turn blanks rows (each (λ id. error id status) those)) (end_answers rows those (blank_turn blanks rows (each (λ id. error id status) those)) (none_dropped none) have (listeners_of_past those are) (blank_blanks client.store.state blanks rows (each (λ id. error id status) those) tells left))
      (subst (λ (t : State). Moves client.store.state t before now) (sym (after_blank client.store.state blanks rows (each (λ id. error id status) those))) moves)

-- a listener that isn't one of these has another target
pub others_apart : (client : Kept) (past : Past) (ids : List ℤ) (those : List ℕ) → ((q : ℕ) → target_of client.listeners q ≡ listened q past) → AreListenersIn client.listeners ids those
    → (q : ℕ) (x : ℤ) → listened q past ≡ Some x → list_any (nat_eq q) those ≡ false → lists ids x ≡ false
others_apart client past ids those targets are q x at other = by (lists ids x) refl
  where
    by : (b : Bool) → lists ids x ≡ b → b ≡ false
    by true listed = absurd (true≢false (sym (among_any q those ((are.each q).1 (x, listed_among x ids listed, targets q ∙ at))) ∙ other))
    by false not_listed = refl

-- What stands where targets ended by this message, and the commit may reset others: of each of those what follows is known.
module _ (old new : Kept) (past : Past) (change : TargetChange) (ids : List ℤ) (status : RpcStatus) (those : List ℕ) (commit : Option Commit) (gone : ℤ → Bool) (heard : WatchStream)
    (stands : StandsFor old old.store.state past) (idle : old.watch.due ≡ Nothing) (spelled : IsSpelledMessage (sent.Target change)) (ends : EndsTargets (calls_of past) change ids)
    (state : new.store.state ≡ after old.store.state commit) (batches : (after old.store.state commit).batches ≡ old.store.state.batches)
    (rows_stay : (o : Option ℤ) → IfSome o (HasTargetRow old.store.state.rows) → IfSome o (HasTargetRow (after old.store.state commit).rows))
    (writes : new.writes ≡ old.writes)
    (are : AreListenersIn old.listeners ids those) (removed : RemovesAll those old.listeners new.listeners)
    (forgets : (q : ℕ) → limbo_in new q ≡ (if list_any (nat_eq q) those then [] else limbo_in old q)) (refuses : new.limbo.limbo ≡ record old.limbo.limbo { running = without_all ids old.limbo.limbo.running })
    (hears_it : Hears (sent.Target change) old.watch heard) (drops : (x : ℤ) → is_dropped_by commit x ≡ gone x)
    (opens : new.watch.is_open ≡ heard.is_open) (aggregates : new.watch.aggregator ≡ heard.aggregator) (online : new.watch.online ≡ heard.online)
    (standing : (x : ℤ) → standing_in new.watch.current.targets.items x ≡ (if lists ids x || gone x then None else standing_in heard.current.targets.items x)) where
  abbrev answer : Turn
  answer = record { refusal = None; commit = commit; lines = each (λ id. error id status) those; limbo = [] }

  abbrev next : Past
  next = answered_next old.store.state past (event.Watch (sent.Target change)) answer

  -- the listeners of the targets are gone, and each other one stays
  listened_is : (q : ℕ) → listened q next ≡ (if list_any (nat_eq q) those then None else listened q past)
  listened_is q = errors_listened q status those (listened q past)

  listener_is : (q : ℕ) → listener q next ≡ (if list_any (nat_eq q) those then None else listener q past)
  listener_is q =
      ap (λ r. told_of r (unless_refused (is_refused_in q (each (λ id. error id status) those)) (listener q past))) (errors_raise q status those)
      ∙ ap (λ b. unless_refused b (listener q past)) (errors_refuse q status those) ∙ unless_is (list_any (nat_eq q) those) (listener q past)

  steps_is : steps_of next ≡ steps_of past
  steps_is = errors_send status those (steps_of past)

  calls_is : calls_of next ≡ came (sent.Target change) ∷ calls_of past
  calls_is =
      errors_left requested_by (λ b id t. refl) status those (calls_by (hears (sent.Target change)) commit (calls_of past))
      ∙ ap (λ b. passed b commit (came (sent.Target change) ∷ calls_of past)) (no_point (calls_of past) change ids ends)

  stays_apart : (q : ℕ) (x : ℤ) → listened q past ≡ Some x → list_any (nat_eq q) those ≡ false → lists ids x ≡ false
  stays_apart = others_apart old past ids those (λ q. stands.targets q) are

  gone_apart : (q : ℕ) (x : ℤ) → listened q past ≡ Some x → lists ids x ≡ false → list_any (nat_eq q) those ≡ false
  gone_apart q x at apart = by (list_any (nat_eq q) those) refl
    where
      one : (a b : ℤ) → Some a ≡ Some b → a ≡ b
      one a b so = cc

      by : (b : Bool) → list_any (nat_eq q) those ≡ b → b ≡ false
      by true is =
          let it = (are.each q).0 (any_among q those is) in
          let same : it.0 ≡ x = one it.0 x (sym it.2 ∙ stands.targets q ∙ at) in
          absurd (true≢false (sym (subst (λ (z : ℤ). lists ids z ≡ true) same (among_listed it.0 ids it.1)) ∙ apart))
      by false is = refl

  unwanted : (x : ℤ) → lists ids x ≡ true → is_wanted x next ≡ false
  unwanted x listed = by (is_wanted x next) refl
    where
      left_of : (q : ℕ) (b : Bool) → list_any (nat_eq q) those ≡ b → (if b then None else listened q past) ≡ Some x → ⊥
      left_of q true is so = none-some x so
      left_of q false is so = true≢false (sym listed ∙ stays_apart q x so is)

      by : (b : Bool) → is_wanted x next ≡ b → b ≡ false
      by true is = let it = wanted_has x next is in absurd (left_of it.0 (list_any (nat_eq it.0) those) refl (sym (listened_is it.0) ∙ it.1))
      by false is = refl

  wanted_still : (x : ℤ) → lists ids x ≡ false → is_wanted x next ≡ is_wanted x past
  wanted_still x apart = wanted_same x next past
      (λ it. (it.0, left_of it.0 (list_any (nat_eq it.0) those) (sym (listened_is it.0) ∙ it.1)))
      (λ it. (it.0, listened_is it.0 ∙ ap (λ b. if b then None else listened it.0 past) (gone_apart it.0 x it.1 apart) ∙ it.1))
    where
      left_of : (q : ℕ) (b : Bool) → (if b then None else listened q past) ≡ Some x → listened q past ≡ Some x
      left_of q true so = absurd (none-some x so)
      left_of q false so = so

  abbrev limbo : Limbo
  limbo = heard_limbo (calls_of past) (sent.Target change) (limbo_of past)

  -- just those of the targets were ended
  ended_is : (x : ℤ) → lists ids x ≡ (lists change.target_ids x && is_live x (calls_of past))
  ended_is x = same_truth (lists ids x) (lists change.target_ids x && is_live x (calls_of past))
      (λ is. let it = (ends.each x).0 (listed_among x ids is) in ap (λ b. b && is_live x (calls_of past)) it.listed ∙ it.live)
      (λ is. let parts = and_parts (lists change.target_ids x) (is_live x (calls_of past)) is in among_listed x ids ((ends.each x).1 (record { listed = parts.0; live = parts.1 })))

  limbo_left : record (limbo_of past) { running = without_all ids (limbo_of past).running } ≡ limbo
  limbo_left =
      ap (λ l. record (limbo_of past) { running = l }) (without_ids ids (limbo_of past) stands.sound ∙ (λ i. filter (λ p. not (ended_is p.0 i)) (limbo_of past).running))
      ∙ sym (ap (λ b. if b then record (limbo_of past) { running = filter (λ p. not (lists change.target_ids p.0 && is_live p.0 (calls_of past))) (limbo_of past).running } else limbo_of past) ends.removes)

  limbo_is : new.limbo.limbo ≡ limbo
  limbo_is = refuses ∙ ap (λ (l : Limbo). record l { running = without_all ids l.running }) stands.limbo_is ∙ limbo_left

  -- a listen that was ended runs no longer, and every other one does as before
  running_is : (x : ℤ) → is_running x limbo ≡ (not (lists ids x) && is_running x (limbo_of past))
  running_is x =
      ap (is_running x) (sym limbo_left)
      ∙ ap (λ l. is_some (key_in l x)) (without_ids ids (limbo_of past) stands.sound)
      ∙ running_left (lists ids) x (limbo_of past).running

  current : (x : ℤ) (b : Bool) → lists ids x ≡ b → (if b || gone x then None else standing_in heard.current.targets.items x) ≡ option_map current_with (current_keys x next)
  current x true listed = sym (ap (option_map current_with) (unwanted_current x next (unwanted x listed)))
  current x false apart =
      ap (λ (k : Option _). if gone x then None else k) (ap (λ (c : _). standing_in c.targets.items x) hears_it.current ∙ stands.watch.current x)
      ∙ left (gone x)
      ∙ ap (option_map current_with) (sym (ap (λ b. if_so (b && true) (told_after x (sent.Target change) commit (calls_of past) (current_keys x past))) (wanted_still x apart)
      ∙ ap (λ p. if_so (is_wanted x past && true) (if p && is_some commit then keys_at_point x (came (sent.Target change) ∷ calls_of past) else if is_dropped_by commit x then None else current_keys x past)) (no_point (calls_of past) change ids ends)
      ∙ ap (λ d. if_so (is_wanted x past && true) (if d then None else current_keys x past)) (drops x)))
    where
      left : (b : Bool) → (if b then None else option_map current_with (current_keys x past)) ≡ option_map current_with (if_so (is_wanted x past && true) (if b then None else current_keys x past))
      left true = ap (option_map current_with) (sym (if_so_none (is_wanted x past && true)))
      left false = ap (option_map current_with) (sym (kept_online x past))

  due : is_watched past ≡ true → (x : ℤ) (b : Bool) → lists ids x ≡ b → is_asked_in x (calls_of next) ≡ is_sought x next limbo
  due opened x true listed =
      ap (is_asked_in x) calls_is ∙ asked_ended (calls_of past) change ids ends x (listed_among x ids listed)
      ∙ sym (ap (λ b. b || is_running x limbo) (unwanted x listed) ∙ running_is x ∙ ap (λ b. not b && is_running x (limbo_of past)) listed)
  due opened x false apart =
      ap (is_asked_in x) calls_is ∙ asked_still (calls_of past) change ids ends x (λ there. true≢false (sym (among_listed x ids there) ∙ apart))
      ∙ ⊎_elim (λ was. absurd (subst (λ (d : Due). IsDue past (limbo_of past) d x) idle was)) (λ asks. asks) (stands.watch.due opened x)
      ∙ sym (ap (λ b. b || is_running x limbo) (wanted_still x apart) ∙ ap (λ b. is_wanted x past || b) (running_is x ∙ ap (λ b. not b && is_running x (limbo_of past)) apart))

  watches : Watches new.watch next limbo
  watches = record {
    opening = opens ∙ hears_it.opening ∙ stands.watch.opening;
    calls = subst (AggregatorStandsFor new.watch.aggregator) (sym calls_is) (subst (λ (a : _). AggregatorStandsFor a (came (sent.Target change) ∷ calls_of past)) (sym aggregates) (hears_it.calls (calls_of past) stands.watch.calls));
    online = online ∙ hears_it.online;
    current = λ x. standing x ∙ current x (lists ids x) refl;
    spelled = subst Rattle.watch_points.specs.SpelledCalls.AreSpelledCalls (sym calls_is) (spelled, stands.watch.spelled);
    due = λ opened x. inr (due opened x (lists ids x) refl);
  }

  rows_then : (q : ℕ) → IfSome (listened q next) (HasTargetRow (after old.store.state commit).rows)
  rows_then q = subst (λ (o : Option ℤ). IfSome o (HasTargetRow (after old.store.state commit).rows)) (sym (listened_is q)) (by (list_any (nat_eq q) those))
    where
      by : (b : Bool) → IfSome (if b then None else listened q past) (HasTargetRow (after old.store.state commit).rows)
      by true = tt
      by false = rows_stay (listened q past) (stands.rows q)

  unshown : (q : ℕ) → listener q next ≡ None → limbo_in new q ≡ []
  unshown q none = forgets q ∙ by (list_any (nat_eq q) those) (sym (listener_is q) ∙ none)
    where
      by : (b : Bool) → (if b then None else listener q past) ≡ None → (if b then [] else limbo_in old q) ≡ []
      by true gone = refl
      by false gone = stands.unshown q gone

  pub follows : Follows new (after old.store.state commit) next limbo
  follows = record {
    state = state;
    listeners = λ q. removed.views q ∙ ap (λ v. if list_any (nat_eq q) those then None else v) (stands.listeners q) ∙ sym (listener_is q);
    targets = λ q. removed.targets q ∙ ap (λ v. if list_any (nat_eq q) those then None else v) (stands.targets q) ∙ sym (listened_is q);
    rows = rows_then;
    unshown = unshown;
    limbo_is = limbo_is;
    sound = subst IsSound limbo_left (without_sound ids (limbo_of past) stands.sound);
    watch = watches;
    writes = subst (StandsOn new.writes) (sym steps_is) (stays_on (sym writes) stands.writes);
    pending = subst (λ (h : Steps). outstanding h ≤ length (after old.store.state commit).batches) (sym steps_is) (subst (λ (n : ℕ). outstanding (steps_of past) ≤ n) (ap length (sym batches)) stands.pending);
  }

module _ (old new : Kept) (past : Past) (change : TargetChange) (ids : List ℤ) (status : RpcStatus) (rows those : List ℕ) (blanks : Bool) (heard : WatchStream)
    (stands : StandsFor old old.store.state past) (opening : old.watch.is_open ≡ true) (idle : old.watch.due ≡ Nothing) (spelled : IsSpelledMessage (sent.Target change)) (gives : Gives (calls_of past) (sent.Target change) (effect.Ended ids status)) (ends : EndsTargets (calls_of past) change ids)
    (none : AreDropped old.limbo.limbo ids []) (have : HaveRows old.store.state.rows ids rows) (tells : IsTrue blanks ↔ IsAnyHeld old.store.state.rows rows) (left : blanks ≡ true → old.store.state.number < most_commits)
    (root : new.root ≡ old.root) (state : new.store.state ≡ blanked_state blanks old.store.state rows) (writes : new.writes ≡ old.writes)
    (are : AreListenersIn old.listeners ids those) (removed : RemovesAll those old.listeners new.listeners)
    (forgets : (q : ℕ) → limbo_in new q ≡ (if list_any (nat_eq q) those then [] else limbo_in old q)) (refuses : new.limbo.limbo ≡ record old.limbo.limbo { running = without_all ids old.limbo.limbo.running })
    (hears_it : Hears (sent.Target change) old.watch heard) (ended : EndsAll ids heard new.watch) where
  abbrev commit : Option Commit
  commit = if blanks then Some (Reset rows) else None

  same_after : after old.store.state commit ≡ blanked_state blanks old.store.state rows
  same_after = after_blank old.store.state blanks rows (each (λ id. error id status) those)

  stays : Follows new (after old.store.state commit) (answered_next old.store.state past (event.Watch (sent.Target change)) (blank_turn blanks rows (each (λ id. error id status) those))) (heard_limbo (calls_of past) (sent.Target change) (limbo_of past))
  stays = follows old new past change ids status those commit (λ x. false) heard stands idle spelled ends
      (state ∙ sym same_after) (ap (λ (t : State). t.batches) same_after ∙ batches_blank old.store.state blanks rows)
      (λ o has. subst (λ (t : State). IfSome o (HasTargetRow t.rows)) (sym same_after) (rows_state old.store.state blanks rows o has))
      writes are removed forgets refuses hears_it (λ x. blank_drops blanks rows x false) ended.opening ended.aggregator ended.online
      (λ x. ended.current x ∙ ap (λ b. if b then None else standing_in heard.current.targets.items x) (sym (or_false (lists ids x))))
    where
      or_false : (b : Bool) → (b || false) ≡ b
      or_false true = refl
      or_false false = refl

  -- a listener that stays has another target
  apart : (q : ℕ) (x : ℤ) → listened q past ≡ Some x → list_any (nat_eq q) those ≡ false → lists ids x ≡ false
  apart = others_apart old past ids those (λ q. stands.targets q) are

  quiet : AreQuiet new
  quiet q view there = by (list_any (nat_eq q) those) refl
    where
      by : (b : Bool) → list_any (nat_eq q) those ≡ b → IsQuiet new.root new.store.state (stance_in new q) (limbo_in new q) view
      by true is = absurd (none-some view (sym (removed.views q ∙ ap (λ b. if b then None else viewed old.listeners q) is) ∙ there))
      by false is =
          quiet_blank old new past blanks rows stands root state (ended.online ∙ hears_it.online) q view
          (sym (removed.views q ∙ ap (λ b. if b then None else viewed old.listeners q) is) ∙ there)
          (removed.targets q ∙ ap (λ b. if b then None else target_of old.listeners q) is)
          (λ x at. ended.current x ∙ ap (λ b. if b then None else standing_in heard.current.targets.items x) (apart q x (sym (stands.targets q) ∙ at) is) ∙ ap (λ (c : _). standing_in c.targets.items x) hears_it.current)
          (forgets q ∙ ap (λ b. if b then [] else limbo_in old q) is)

  hands_change : {vec : Vec Out Global} → vec.items ≡ each (λ id. Error id status) those → HandsSettled old.store.state past (event.Watch (sent.Target change)) (Done vec) new
  hands_change {vec} told =
      as_done refl (no_reset past (event.Watch (sent.Target change)) (blank_turn blanks rows (each (λ id. error id status) those)).commit new (λ t. blank_resets blanks rows past t false) (ap resets_of (ended.due ∙ hears_it.due ∙ idle)))
      (handed old.store.state past (event.Watch (sent.Target change)) (blank_turn blanks rows (each (λ id. error id status) those)) new new vec.items vec.items
      (end_answers (sent.Target change) ids status stands opening gives rows those (blank_turn blanks rows (each (λ id. error id status) those)) (none_dropped (sent.Target change) ids status stands opening gives none) have (listeners_of_past (sent.Target change) ids status stands opening gives those are) (blank_blanks old.store.state blanks rows (each (λ id. error id status) those) tells left))
      refl stays keeps_all (raises_none vec.items quiet) (λ q. errors_raise q status those)
      (subst (λ (os : List Out). AllZip (IsShown new) os (each (λ id. error id status) those)) (sym told) (errors_shown new status those)))

-- the targets ended
pub hands_end : {old new : Kept} {past : Past} {vec : Vec Out Global} (response : ListenResponse) (ids : List ℤ) (status : RpcStatus) (rows those : List ℕ) (blanks : Bool) (heard : WatchStream)
    → StandsFor old old.store.state past → old.watch.is_open ≡ true → old.watch.due ≡ Nothing → IsSpelledMessage response → Gives (calls_of past) response (effect.Ended ids status)
    → AreDropped old.limbo.limbo ids [] → HaveRows old.store.state.rows ids rows → IsTrue blanks ↔ IsAnyHeld old.store.state.rows rows → (blanks ≡ true → old.store.state.number < most_commits)
    → new.root ≡ old.root → new.store.state ≡ blanked_state blanks old.store.state rows → new.writes ≡ old.writes
    → AreListenersIn old.listeners ids those → RemovesAll those old.listeners new.listeners
    → ((q : ℕ) → limbo_in new q ≡ (if list_any (nat_eq q) those then [] else limbo_in old q)) → new.limbo.limbo ≡ record old.limbo.limbo { running = without_all ids old.limbo.limbo.running } → Hears response old.watch heard → EndsAll ids heard new.watch
    → vec.items ≡ each (λ id. Error id status) those → HandsSettled old.store.state past (event.Watch response) (Done vec) new
hands_end {old} {new} {past} {vec} response ids status rows those blanks heard stands opening idle spelled gives none have tells left root state writes are removed forgets refuses hears_it ended told =
    let found = ended_change (calls_of past) response ids status gives in
    subst (λ (r : ListenResponse). HandsSettled old.store.state past (event.Watch r) (Done vec) new) (sym found.1)
    (hands_change old new past found.0 ids status rows those blanks heard stands opening idle (subst IsSpelledMessage found.1 spelled) (subst (λ (r : ListenResponse). Gives (calls_of past) r (effect.Ended ids status)) found.1 gives) found.2 none have tells left root state writes are removed forgets refuses (subst (λ (r : ListenResponse). Hears r old.watch heard) found.1 hears_it) ended told)
