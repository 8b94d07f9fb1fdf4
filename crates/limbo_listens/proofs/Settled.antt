-- an update with the keys that are held changes nothing
use Rattle.std.proofs.Common.{◌≡◌, ◌∙◌, ℕ, ◌<◌, ℤ, Bool, true, false, ◌||◌, not, List, [], ◌∷◌, ◌++◌, length, drop, refl, sym, ap, subst, append-nil, arith}
use Rattle.std.specs.Cmp.Lexicographic.{lists_equiv, nat_list_eq_equiv}
use Rattle.std.specs.List.{filter}
use Rattle.std.proofs.lemmas.List.Folds.{list_any-append}
use Rattle.limbo_resolver.specs.Laws.{IsSound}
use Rattle.limbo_resolver.specs.Limbo.{Key, Limbo, ended, filled, has, has_place, held, ids_of, kept, keys_of, queue, same_key, started, updated}
use Rattle.limbo_resolver.proofs.Sound.{stay_sound}
use Rattle.limbo_listens.specs.Kept.{IsKept, IsSettled}
use Rattle.limbo_listens.specs.Listens.{AreInLimbo, Listens, first_limbo, limbo_at}
use Rattle.limbo_listens.proofs.Shown.{are_same, none_here}

-- ---- where each of the keys passes a test

itself : (x : Key) (xs : List Key) → has (x ∷ xs) x ≡ true
itself x xs = ap (λ b. b || has xs x) ((lists_equiv nat_list_eq_equiv).refl x)

or_left : (a b : Bool) → a ≡ true → (a || b) ≡ true
or_left true b e = refl
or_left false b e = cc

or_right : (a b : Bool) → b ≡ true → (a || b) ≡ true
or_right true b e = refl
or_right false b e = e

later : (k x : Key) (xs : List Key) → has xs k ≡ true → has (x ∷ xs) k ≡ true
later k x xs there = or_right (same_key k x) (has xs k) there

module _ (p : Key → Bool) where
  passes : (keys : List Key) → ((k : Key) → has keys k ≡ true → p k ≡ true) → filter p keys ≡ keys
  passes [] all = refl
  passes (x ∷ xs) all = rw (all x (itself x xs)) (ap (λ l. x ∷ l) (passes xs (λ k there. all k (later k x xs there))))

  stops : (keys : List Key) → ((k : Key) → has keys k ≡ true → p k ≡ true) → filter (λ k. not (p k)) keys ≡ []
  stops [] all = refl
  stops (x ∷ xs) all = rw (all x (itself x xs)) (stops xs (λ k there. all k (later k x xs there)))

  all_pass : (ps : List (ℤ × Key)) → ((k : Key) → has (keys_of ps) k ≡ true → p k ≡ true) → filter (λ l. p l.1) ps ≡ ps
  all_pass [] all = refl
  all_pass (l ∷ ps) all = rw (all l.1 (itself l.1 (keys_of ps))) (ap (λ ls. l ∷ ls) (all_pass ps (λ k there. all k (later k l.1 (keys_of ps) there))))

  none_stays : (ps : List (ℤ × Key)) → ((k : Key) → has (keys_of ps) k ≡ true → p k ≡ true) → filter (λ l. not (p l.1)) ps ≡ []
  none_stays [] all = refl
  none_stays (l ∷ ps) all = rw (all l.1 (itself l.1 (keys_of ps))) (none_stays ps (λ k there. all k (later k l.1 (keys_of ps) there)))

-- ---- the update

nothing_dropped : (ps : List (ℤ × Key)) → drop (length ps) ps ≡ []
nothing_dropped [] = refl
nothing_dropped (p ∷ ps) = nothing_dropped ps

filled_stays : (running : List (ℤ × Key)) (keys : List Key) (next : ℕ) → (0 < length keys → has_place (length running) next ≡ false) → filled running keys next ≡ record { running = running; waiting = keys; next = next }
filled_stays running [] next full = refl
filled_stays running (key ∷ keys) next full = rw (full (omega arith)) refl

module _ (wanted : List Key) (s : Limbo) (same : (key : Key) → has (held s) key ≡ has wanted key) (full : 0 < length s.waiting → has_place (length s.running) s.next ≡ false) where
  runs : (k : Key) → has (keys_of s.running) k ≡ true → has wanted k ≡ true
  runs k there = sym (same k) ∙ list_any-append (same_key k) (keys_of s.running) s.waiting ∙ or_left (has (keys_of s.running) k) (has s.waiting k) there

  waits : (k : Key) → has s.waiting k ≡ true → has wanted k ≡ true
  waits k there = sym (same k) ∙ list_any-append (same_key k) (keys_of s.running) s.waiting ∙ or_right (has (keys_of s.running) k) (has s.waiting k) there

  all_run : kept wanted s.running ≡ s.running
  all_run = all_pass (has wanted) s.running runs

  line_is : queue wanted s ≡ s.waiting
  line_is =
      (λ i. passes (has wanted) s.waiting waits i ++ stops (has (held s)) wanted (λ k there. same k ∙ there) i)
      ∙ append-nil s.waiting

  pub stays : updated wanted s ≡ s
  stays = (λ i. filled (all_run i) (line_is i) s.next) ∙ filled_stays s.running s.waiting s.next full

  pub none_ended : ended wanted s.running ≡ []
  none_ended = ap ids_of (none_stays (has wanted) s.running runs)

  pub none_started : started wanted s ≡ []
  none_started = (λ i. drop (length (all_run i)) (stays i).running) ∙ nothing_dropped s.running

-- ---- what is kept

-- listens with other keys of the same meaning, and the same limbo
pub settled_same : (a b : Listens) → ((id : ℕ) → limbo_at b id ≡ limbo_at a id) → b.limbo ≡ a.limbo → IsSettled a → IsSettled b
settled_same a b same limbo settled = record {
  wanted = settled.wanted;
  are = are_same a b settled.wanted same settled.are;
  stays = ap (updated settled.wanted) limbo ∙ settled.stays ∙ sym limbo;
  none_ended = ap (λ (s : Limbo). ended settled.wanted s.running) limbo ∙ settled.none_ended;
  none_started = ap (started settled.wanted) limbo ∙ settled.none_started;
}

-- after an update with the keys in limbo
pub kept_settled : (listens : Listens) (wanted : List Key) (new : Limbo) (changed : Bool) → AreInLimbo listens wanted → new ≡ updated wanted listens.limbo → ((key : Key) → has (held new) key ≡ has wanted key)
    → (0 < length new.waiting → has_place (length new.running) new.next ≡ false) → IsSound listens.limbo → IsKept (record { shown = listens.shown; limbo = new }) changed
kept_settled listens wanted new changed are is same full sound = record {
  sound = subst IsSound (sym is) (stay_sound.update wanted listens.limbo are.ascending sound);
  settled = λ _. record {
    wanted = wanted;
    are = are_same listens (record { shown = listens.shown; limbo = new }) wanted (λ id. refl) are;
    stays = stays wanted new same full;
    none_ended = none_ended wanted new same full;
    none_started = none_started wanted new same full;
  };
}

-- where nothing is in limbo
pub kept_first : (listens : Listens) (changed : Bool) → listens.shown ≡ [] → listens.limbo ≡ first_limbo → IsKept listens changed
kept_first listens changed none first = record {
  sound = subst IsSound (sym first) (stay_sound.first 1 refl);
  settled = λ _. settled_same (record { shown = []; limbo = first_limbo }) listens (λ id. ap (λ l. limbo_at (record { shown = l; limbo = first_limbo }) id) none) first (record {
    wanted = [];
    are = record { ascending = λ i j d before inside. absurd (omega (arith, inside)); each = λ key. (λ has. absurd (none_here key has), λ shows. absurd (none_here key shows.1)) };
    stays = refl;
    none_ended = refl;
    none_started = refl;
  });
}

-- where something changed, soundness is all
pub kept_changed : (listens : Listens) (changed : Bool) → changed ≡ true → IsSound listens.limbo → IsKept listens changed
kept_changed listens changed is sound = record { sound = sound; settled = λ other. cc }
