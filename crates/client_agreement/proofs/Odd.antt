-- the ids of listens of documents in limbo are odd
use Rattle.std.proofs.Common.{◌≡◌, ℕ, ◌+◌, ◌%◌, ℤ, pos, negsuc, Bool, true, false, ◌==◌, List, [], ◌∷◌, ◌++◌, length, Some, if◌then◌else◌, refl, ap, subst, arith}
use Rattle.std.specs.Prelude.{is_some}
use Rattle.std.specs.List.{filter}
use Rattle.std.specs.Ordering.{int_eq}
use Rattle.std.proofs.lemmas.Bool.{false≢true, eqb-true}
use Rattle.agreement.proofs.Counting.{same_id-true}
use Rattle.limbo_resolver.specs.Limbo.{Key, Limbo, filled, has_place, is_odd, kept, key_in, queue}
use Rattle.listen_protocol.specs.Calls.{Calls}
use Rattle.client_turns.specs.LimboListens.{going_on, is_running, limbo_of}
use Rattle.client_turns.specs.Past.{Past}
use Rattle.client_turns.specs.Watching.{WatchStep, calls_of, step_of}
use Rattle.client_agreement.proofs.GoingOn.{going_keeps}
use Rattle.client_agreement.specs.Durable.{is_listener}

abbrev pub AllOdd : List (ℤ × Key) → Type 0
AllOdd [] = Unit {0}
AllOdd (p ∷ ps) = (is_odd p.0 ≡ true) × AllOdd ps

-- the running ids are odd, and the next one is
pub record AreOdd (limbo : Limbo) : Type 0 where
  pub next : limbo.next % 2 ≡ 1
  pub running : AllOdd limbo.running

odd_filter : (p : ℤ × Key → Bool) (ps : List (ℤ × Key)) → AllOdd ps → AllOdd (filter p ps)
odd_filter p [] all = tt
odd_filter p (x ∷ ps) all = by (p x) (odd_filter p ps all.1)
  where
    by : (b : Bool) → AllOdd (filter p ps) → AllOdd (if b then x ∷ filter p ps else filter p ps)
    by true rest = (all.0, rest)
    by false rest = rest

odd_append : (ps qs : List (ℤ × Key)) → AllOdd ps → AllOdd qs → AllOdd (ps ++ qs)
odd_append [] qs first second = second
odd_append (p ∷ ps) qs first second = (first.0, odd_append ps qs first.1 second)

odd_at : (n : ℕ) → n % 2 ≡ 1 → is_odd (pos n) ≡ true
odd_at n is = ap (λ k. k == 1) is

odd_filled : (running : List (ℤ × Key)) (waiting : List Key) (next : ℕ) → next % 2 ≡ 1 → AllOdd running → AreOdd (filled running waiting next)
odd_filled running [] next odd all = record { next = odd; running = all }
odd_filled running (key ∷ waiting) next odd all =
    by (odd_filled (running ++ (pos next, key) ∷ []) waiting (next + 2) (omega (arith, odd)) (odd_append running ((pos next, key) ∷ []) all (odd_at next odd, tt))) (has_place (length running) next)
  where
    by : AreOdd (filled (running ++ (pos next, key) ∷ []) waiting (next + 2)) → (b : Bool) → AreOdd (if b then filled (running ++ (pos next, key) ∷ []) waiting (next + 2) else record { running = running; waiting = key ∷ waiting; next = next })
    by more true = more
    by more false = record { next = odd; running = all }

odd_going : (h : Calls) (step : WatchStep) (limbo : Limbo) → AreOdd limbo → AreOdd (going_on h step limbo)
odd_going h step limbo = going_keeps AreOdd h limbo (λ ids odd. record { next = odd.next; running = odd_filter _ limbo.running odd.running }) step

pub limbo_odd : (past : Past) → AreOdd (limbo_of past)
limbo_odd [] = record { next = refl; running = tt }
limbo_odd (e ∷ past) =
    let odd = odd_going (calls_of past) (step_of e) (limbo_of past) (limbo_odd past) in
    let limbo = going_on (calls_of past) (step_of e) (limbo_of past) in
    odd_filled (kept e.turn.limbo limbo.running) (queue e.turn.limbo limbo) limbo.next odd.next (odd_filter _ limbo.running odd.running)

odd_in : (ps : List (ℤ × Key)) (t : ℤ) → AllOdd ps → is_some (key_in ps t) ≡ true → is_odd t ≡ true
odd_in [] t all here = absurd (false≢true here)
odd_in (p ∷ ps) t all here = by (odd_in ps t all.1) (int_eq p.0 t) refl here
  where
    by : (is_some (key_in ps t) ≡ true → is_odd t ≡ true) → (b : Bool) → int_eq p.0 t ≡ b → is_some (if b then Some p.1 else key_in ps t) ≡ true → is_odd t ≡ true
    by rest true is here = subst (λ (x : ℤ). is_odd x ≡ true) (same_id-true p.0 t is) all.0
    by rest false is here = rest here

pub running_odd : (t : ℤ) (past : Past) → is_running t (limbo_of past) ≡ true → is_odd t ≡ true
running_odd t past here = odd_in (limbo_of past).running t (limbo_odd past).running here

-- an odd id is no listener's
pub odd_unlistened : (t : ℤ) → is_odd t ≡ true → is_listener t ≡ false
odd_unlistened (pos n) odd = let one : n % 2 ≡ 1 = eqb-true (n % 2) 1 odd in ap (λ k. k == 0) one
odd_unlistened (negsuc n) odd = refl
