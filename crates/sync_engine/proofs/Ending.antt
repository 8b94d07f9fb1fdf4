-- a listener that ends
use Rattle.std.proofs.Common.{◌≡◌, ℕ, ℤ, Bool, true, false, nat_eq, List, [], ◌∷◌, Option, Some, None, not, ◌&&◌, ◌↔◌, IsTrue, IfSome, if◌then◌else◌, Vec, Global, refl, sym, ap, subst, ◌∙◌}
use Rattle.std.specs.List.{AllZip}
use Rattle.std.specs.Ordering.{int_eq}
use Rattle.std.specs.Option.{option_and_then}
use Rattle.std.proofs.lemmas.Bool.Decides.{Decides-int_eq}
use Rattle.std.proofs.lemmas.Bool.{eqb-true}
use Rattle.std.proofs.lemmas.Option.{none-some}
use Rattle.client_events.specs.declared.event.Event.TheVariants as event
use Rattle.limbo_listens.specs.Listens.{is_id as limbo_id}
use Rattle.listeners.proofs.Tabled.{no_target}
use Rattle.listeners.specs.Table.{Changes, ChangesTarget, IsWanted, target_of, viewed}
use Rattle.local_store.specs.Store.{Store}
use Rattle.local_store.specs.State.{State}
use Rattle.views.specs.Viewed.{Viewed}
use Rattle.client_turns.specs.Answers.{Answers, ends}
use Rattle.client_turns.specs.Turns.{answered, refused}
use Rattle.client_turns.specs.Lines.{unlistened}
use Rattle.client_turns.specs.Past.{Past, listener}
use Rattle.client_turns.specs.Settling.{standing_or, HasTargetRow}
use Rattle.sync_engine.specs.Stream.{Ends, resets_of}
use Rattle.client_turns.specs.Turn.{answered_next}
use Rattle.client_turns.specs.Watching.{is_offline, is_wanted, listened}
use Rattle.client_turns.specs.LimboListens.{limbo_of}
use Rattle.sync_engine.specs.Standing.{IsQuiet, Kept, StandsFor, limbo_in, stance_in, standing_in}
use Rattle.sync_engine.specs.declared.watch_stream.Due.TheVariants.{Nothing}
use Rattle.sync_engine.specs.Telling.{HandsSettled, IsShown}
use Rattle.sync_engine.specs.declared.out.Out.{Out}
use Rattle.sync_engine.specs.declared.out.Out.TheVariants.{Unlistened}
use Rattle.sync_engine.specs.declared.out.Outcome.TheVariants.{Done}
use Rattle.client_turns.specs.declared.refusal.Refusal.TheVariants.{NoListener}
use Rattle.sync_engine.proofs.Following.{AreQuiet, Follows, are_quiet, quiet_as}
use Rattle.sync_engine.proofs.Handing.{as_done, handed, keeps_all, no_reset, raises_none, same_id}
use Rattle.sync_engine.proofs.Passing.{watches_ended}
use Rattle.client_turns.proofs.Wanted.{has_wanted, same_truth, wanted_has, wanted_in}
use Rattle.sync_engine.proofs.Turning.{some_is, stays_on, viewed_linked}

-- ---- a listener that ends

module _ (old new : Kept) (s : State) (past : Past) (id : ℕ) (target : ℤ) (wanted : Bool) (there : target_of old.listeners id ≡ Some target) (stands : StandsFor old s past) (idle : old.watch.due ≡ Nothing)
    (root : new.root ≡ old.root) (store : new.store ≡ old.store) (writes : new.writes ≡ old.writes) (changes : Changes id None old.listeners new.listeners) (links : ChangesTarget id None old.listeners new.listeners)
    (forgets : (q : ℕ) → limbo_in new q ≡ (if limbo_id id q then [] else limbo_in old q)) (held : new.limbo.limbo ≡ old.limbo.limbo)
    (tells : IsTrue wanted ↔ IsWanted new.listeners target) (watched : Ends target wanted old.watch new.watch) where
  was : listened id past ≡ Some target
  was = sym (stands.targets id) ∙ there

  ended : ends s id (listener id past) ≡ answered (unlistened id s.number ∷ [])
  ended = by (listener id past) (stands.listeners id)
    where
      by : (v : Option Viewed) → viewed old.listeners id ≡ v → ends s id v ≡ answered (unlistened id s.number ∷ [])
      by None none = absurd (none-some target (sym (no_target old.listeners id none) ∙ there))
      by (Some view) some = refl

  listeners : (q : ℕ) → viewed new.listeners q ≡ listener q (answered_next s past (event.Unlisten id) (answered (unlistened id s.number ∷ [])))
  listeners q = changes q ∙ ap (λ b. if b then None else viewed old.listeners q) (same_id id q) ∙ ap (λ v. if nat_eq id q then None else v) (stands.listeners q)

  targets : (q : ℕ) → target_of new.listeners q ≡ listened q (answered_next s past (event.Unlisten id) (answered (unlistened id s.number ∷ [])))
  targets q = links q ∙ ap (λ b. if b then None else target_of old.listeners q) (same_id id q) ∙ ap (λ v. if nat_eq id q then None else v) (stands.targets q)

  left_of : (q : ℕ) (x : ℤ) (b : Bool) → (if b then None else listened q past) ≡ Some x → listened q past ≡ Some x
  left_of q x true so = absurd (none-some x so)
  left_of q x false so = so

  wanted_others : (x : ℤ) → (x ≡ target → ⊥) → is_wanted x (answered_next s past (event.Unlisten id) (answered (unlistened id s.number ∷ []))) ≡ is_wanted x past
  wanted_others x apart = same_truth (is_wanted x (answered_next s past (event.Unlisten id) (answered (unlistened id s.number ∷ [])))) (is_wanted x past)
      (λ now. let it = wanted_has x (answered_next s past (event.Unlisten id) (answered (unlistened id s.number ∷ []))) now in has_wanted x past (it.0, left_of it.0 x (nat_eq id it.0) it.1))
      (λ before. let it = wanted_has x past before in has_wanted x (answered_next s past (event.Unlisten id) (answered (unlistened id s.number ∷ []))) (it.0, by it.0 it.1 (nat_eq id it.0) refl))
    where
      by : (q : ℕ) → listened q past ≡ Some x → (b : Bool) → nat_eq id q ≡ b → listened q (answered_next s past (event.Unlisten id) (answered (unlistened id s.number ∷ []))) ≡ Some x
      by q is true same = absurd (apart (some_is x target (sym is ∙ ap (λ n. listened n past) (sym (eqb-true id q same)) ∙ was)))
      by q is false other = ap (λ b. if b then None else listened q past) other ∙ is

  wanted_now : is_wanted target (answered_next s past (event.Unlisten id) (answered (unlistened id s.number ∷ []))) ≡ wanted
  wanted_now = same_truth (is_wanted target (answered_next s past (event.Unlisten id) (answered (unlistened id s.number ∷ [])))) wanted (λ is. tells.1 ((wanted_in new.listeners (answered_next s past (event.Unlisten id) (answered (unlistened id s.number ∷ []))) targets target).1 is)) (λ so. (wanted_in new.listeners (answered_next s past (event.Unlisten id) (answered (unlistened id s.number ∷ []))) targets target).0 (tells.0 so))

  rows : (q : ℕ) → IfSome (listened q (answered_next s past (event.Unlisten id) (answered (unlistened id s.number ∷ [])))) (HasTargetRow s.rows)
  rows q = by (nat_eq id q)
    where
      by : (b : Bool) → IfSome (if b then None else listened q past) (HasTargetRow s.rows)
      by true = tt
      by false = stands.rows q

  answers : Answers s past (event.Unlisten id) (answered (unlistened id s.number ∷ []))
  answers = sym ended

  -- who is no listener has nothing in limbo
  unshown : (q : ℕ) → listener q (answered_next s past (event.Unlisten id) (answered (unlistened id s.number ∷ []))) ≡ None → limbo_in new q ≡ []
  unshown q none = forgets q ∙ by (nat_eq id q) (ap (λ b. if b then [] else limbo_in old q) (same_id id q)) none
    where
      by : (b : Bool) → (if limbo_id id q then [] else limbo_in old q) ≡ (if b then [] else limbo_in old q) → (if b then None else listener q past) ≡ None → (if limbo_id id q then [] else limbo_in old q) ≡ []
      by true is gone = is
      by false is gone = is ∙ stands.unshown q gone

  follows_ended : Follows new s (answered_next s past (event.Unlisten id) (answered (unlistened id s.number ∷ []))) (limbo_of past)
  follows_ended = record {
    state = ap (λ (x : Store). x.state) store ∙ stands.state;
    listeners = listeners;
    targets = targets;
    rows = rows;
    unshown = unshown;
    limbo_is = held ∙ stands.limbo_is;
    sound = stands.sound;
    watch = watches_ended s past (event.Unlisten id) (answered (unlistened id s.number ∷ [])) refl old.watch new.watch (limbo_of past) target wanted (λ h. refl) wanted_others wanted_now (has_wanted target past (id, was)) idle watched stands.watch;
    writes = stays_on (sym writes) stands.writes;
    pending = stands.pending;
  }

  -- the target of each other listener stands as before
  quiet : AreQuiet new
  quiet q view now = by (nat_eq id q) refl
    where
      by : (b : Bool) → nat_eq id q ≡ b → IsQuiet new.root new.store.state (stance_in new q) (limbo_in new q) view
      by true same = absurd (none-some view (sym (changes q ∙ ap (λ b. if b then None else viewed old.listeners q) (same_id id q ∙ same)) ∙ now))
      by false other =
          quiet_as old new old.store.state q view root (ap (λ (x : Store). x.state) store) same_stance (forgets q ∙ ap (λ b. if b then [] else limbo_in old q) (same_id id q ∙ other))
          (are_quiet stands q view (sym (changes q ∙ ap (λ b. if b then None else viewed old.listeners q) (same_id id q ∙ other)) ∙ now))
        where
          link : target_of new.listeners q ≡ target_of old.listeners q
          link = links q ∙ ap (λ b. if b then None else target_of old.listeners q) (same_id id q ∙ other)

          -- its own target is still wanted
          keys : (o : Option ℤ) → target_of new.listeners q ≡ o → option_and_then (standing_in new.watch.current.targets.items) o ≡ option_and_then (standing_in old.watch.current.targets.items) o
          keys None is = refl
          keys (Some x) is = watched.current x ∙ at (int_eq target x) refl
            where
              at : (c : Bool) → int_eq target x ≡ c → (if c && not wanted then None else standing_in old.watch.current.targets.items x) ≡ standing_in old.watch.current.targets.items x
              at false apart = refl
              at true equal = ap (λ w. if not w then None else standing_in old.watch.current.targets.items x) (tells.1 (q, is ∙ ap Some (sym ((Decides-int_eq target x).0 equal))))

          same_stance : stance_in new q ≡ stance_in old q
          same_stance = λ i. record { target = link i; standing = standing_or (stands_at i); offline = is_offline (watched.online i) }
            where
              stands_at : option_and_then (standing_in new.watch.current.targets.items) (target_of new.listeners q) ≡ option_and_then (standing_in old.watch.current.targets.items) (target_of old.listeners q)
              stands_at = keys (target_of new.listeners q) refl ∙ ap (option_and_then (standing_in old.watch.current.targets.items)) link

  pub hands_ended : {vec : Vec Out Global} → vec.items ≡ Unlistened id old.store.state.number ∷ [] → HandsSettled s past (event.Unlisten id) (Done vec) new
  hands_ended {vec} is =
      as_done refl (no_reset past (event.Unlisten id) None new (λ t. refl) (ap resets_of watched.due))
      (handed s past (event.Unlisten id) (answered (unlistened id s.number ∷ [])) new new vec.items vec.items answers refl follows_ended keeps_all (raises_none vec.items quiet) (λ q. refl)
      (subst (λ (os : List Out). AllZip (IsShown new) os (unlistened id s.number ∷ [])) (sym is) (ap (λ (x : State). unlistened id x.number) (sym stands.state), tt)))

-- who is no listener can't end
pub ends_not : {client : Kept} {s : State} {past : Past} (id : ℕ) → target_of client.listeners id ≡ None → StandsFor client s past → Answers s past (event.Unlisten id) (refused (NoListener id))
ends_not {client} {s} {past} id none stands = by (listener id past) (stands.listeners id)
  where
    by : (v : Option Viewed) → viewed client.listeners id ≡ v → refused (NoListener id) ≡ ends s id v
    by None there = refl
    by (Some view) there = absurd (viewed_linked client.listeners id view there none)
