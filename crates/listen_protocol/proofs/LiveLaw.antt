-- the counts of open incarnations tell which are live
use Rattle.std.proofs.Common.{◌≡◌, ◌∙◌, ℕ, ◌+◌, ◌-◌, ◌<◌, ℤ, Bool, true, false, ◌&&◌, not, eqb, if◌then◌else◌, List, [], ◌∷◌, ◌++◌, refl, sym, ap, arith}
use Rattle.std.specs.Ordering.{int_eq}
use Rattle.std.proofs.lemmas.Bool.{and_right, false≢true, true≢false, ne_eqb}
use Rattle.listen_protocol.specs.Calls.{Calls, asked, unasked, came, applied, skipped, changes, is_remove}
use Rattle.listen_protocol.specs.Transcript.{is_wanted, open_count}
use Rattle.listen_protocol.specs.Laws.{LiveIsCounted}
use Rattle.listen_protocol.specs.Incarnations.{Incarnation, end_oldest, incarnations, newest_is_asked, newest_is_live, unask_newest}

abbrev open_of : List Incarnation → ℕ
open_of [] = 0
open_of (i ∷ is) = if i.ended then open_of is else open_of is + 1

abbrev newest_wanted : List Incarnation → Bool
newest_wanted [] = false
newest_wanted (i ∷ []) = i.wanted
newest_wanted (i ∷ j ∷ is) = newest_wanted (j ∷ is)

-- the ended ones are the oldest
abbrev all_open : List Incarnation → Bool
all_open [] = true
all_open (i ∷ is) = not i.ended && all_open is

abbrev EndedFirst : List Incarnation → Type 0
EndedFirst [] = Unit {0}
EndedFirst (i ∷ is) = (i.ended ≡ false → all_open is ≡ true) × EndedFirst is

abbrev fresh : Incarnation
fresh = record { wanted = true; ended = false }

-- ---- one more

open_more : (is : List Incarnation) → open_of (is ++ fresh ∷ []) ≡ open_of is + 1
open_more [] = refl
open_more (i ∷ is) = go i.ended (open_more is)
  where
    go : (b : Bool) → open_of (is ++ fresh ∷ []) ≡ open_of is + 1 → (if b then open_of (is ++ fresh ∷ []) else open_of (is ++ fresh ∷ []) + 1) ≡ (if b then open_of is else open_of is + 1) + 1
    go true e = e
    go false e = ap (λ n. n + 1) e

wanted_more : (is : List Incarnation) → newest_wanted (is ++ fresh ∷ []) ≡ true
wanted_more [] = refl
wanted_more (i ∷ []) = refl
wanted_more (i ∷ j ∷ is) = wanted_more (j ∷ is)

open_all_more : (is : List Incarnation) → all_open is ≡ true → all_open (is ++ fresh ∷ []) ≡ true
open_all_more [] e = refl
open_all_more (i ∷ is) e = go i.ended e (open_all_more is)
  where
    go : (b : Bool) → (not b && all_open is) ≡ true → (all_open is ≡ true → all_open (is ++ fresh ∷ []) ≡ true) → (not b && all_open (is ++ fresh ∷ [])) ≡ true
    go true e rest = absurd (false≢true e)
    go false e rest = rest e

first_more : (is : List Incarnation) → EndedFirst is → EndedFirst (is ++ fresh ∷ [])
first_more [] first = (λ e. refl, tt)
first_more (i ∷ is) first = (λ e. open_all_more is (first.0 e), first_more is first.1)

-- ---- a remove request

open_unasked : (is : List Incarnation) → open_of (unask_newest is) ≡ open_of is
open_unasked [] = refl
open_unasked (i ∷ []) = refl
open_unasked (i ∷ j ∷ is) = ap (λ n. if i.ended then n else n + 1) (open_unasked (j ∷ is))

wanted_unasked : (is : List Incarnation) → newest_wanted (unask_newest is) ≡ false
wanted_unasked [] = refl
wanted_unasked (i ∷ []) = refl
wanted_unasked (i ∷ j ∷ []) = refl
wanted_unasked (i ∷ j ∷ k ∷ is) = wanted_unasked (j ∷ k ∷ is)

all_unasked : (is : List Incarnation) → all_open (unask_newest is) ≡ all_open is
all_unasked [] = refl
all_unasked (i ∷ []) = refl
all_unasked (i ∷ j ∷ is) = ap (λ b. not i.ended && b) (all_unasked (j ∷ is))

first_unasked : (is : List Incarnation) → EndedFirst is → EndedFirst (unask_newest is)
first_unasked [] first = tt
first_unasked (i ∷ []) first = first
first_unasked (i ∷ j ∷ is) first = (λ e. all_unasked (j ∷ is) ∙ first.0 e, first_unasked (j ∷ is) first.1)

-- ---- a REMOVE

open_ended : (is : List Incarnation) → open_of (end_oldest is) ≡ open_of is - 1
open_ended [] = refl
open_ended (i ∷ is) = go i.ended refl (open_ended is)
  where
    go : (b : Bool) → i.ended ≡ b → open_of (end_oldest is) ≡ open_of is - 1 → open_of (if b then i ∷ end_oldest is else record i { ended = true } ∷ is) ≡ (if b then open_of is else open_of is + 1) - 1
    go true e rest = rw e rest
    go false e rest = omega arith

wanted_ended : (is : List Incarnation) → newest_wanted (end_oldest is) ≡ newest_wanted is
wanted_ended [] = refl
wanted_ended (i ∷ []) = go i.ended
  where
    go : (b : Bool) → newest_wanted (if b then i ∷ [] else record i { ended = true } ∷ []) ≡ i.wanted
    go true = refl
    go false = refl
wanted_ended (i ∷ j ∷ is) = go i.ended (wanted_ended (j ∷ is)) (shape j.ended)
  where
    shape : (b : Bool) → newest_wanted (i ∷ (if b then j ∷ end_oldest is else record j { ended = true } ∷ is)) ≡ newest_wanted (if b then j ∷ end_oldest is else record j { ended = true } ∷ is)
    shape true = refl
    shape false = refl

    go : (b : Bool) → newest_wanted (end_oldest (j ∷ is)) ≡ newest_wanted (j ∷ is) → newest_wanted (i ∷ end_oldest (j ∷ is)) ≡ newest_wanted (end_oldest (j ∷ is)) → newest_wanted (if b then i ∷ end_oldest (j ∷ is) else record i { ended = true } ∷ j ∷ is) ≡ newest_wanted (j ∷ is)
    go true rest step = step ∙ rest
    go false rest step = refl

all_first : (is : List Incarnation) → all_open is ≡ true → EndedFirst is
all_first [] e = tt
all_first (i ∷ is) e = go i.ended e (all_first is)
  where
    go : (b : Bool) → (not b && all_open is) ≡ true → (all_open is ≡ true → EndedFirst is) → (i.ended ≡ false → all_open is ≡ true) × EndedFirst is
    go true e rest = absurd (false≢true e)
    go false e rest = (λ _. e, rest e)

first_ended : (is : List Incarnation) → EndedFirst is → EndedFirst (end_oldest is)
first_ended [] first = tt
first_ended (i ∷ is) first = go i.ended refl (first_ended is first.1)
  where
    go : (b : Bool) → i.ended ≡ b → EndedFirst (end_oldest is) → EndedFirst (if b then i ∷ end_oldest is else record i { ended = true } ∷ is)
    go true e rest = (λ not_ended. absurd (true≢false (sym e ∙ not_ended)), rest)
    go false e rest = (λ never. absurd (true≢false never), first.1)

-- ---- the counts

all_counted : (is : List Incarnation) (i : Incarnation) → all_open (i ∷ is) ≡ true → 0 < open_of (i ∷ is)
all_counted is i e = go i.ended e
  where
    go : (b : Bool) → (not b && all_open is) ≡ true → 0 < (if b then open_of is else open_of is + 1)
    go true e = absurd (false≢true e)
    go false e = omega arith

live_counted : (is : List Incarnation) → EndedFirst is → newest_is_live is ≡ (newest_wanted is && eqb (open_of is) 1)
live_counted [] first = refl
live_counted (i ∷ []) first = go i.ended
  where
    go : (b : Bool) → (i.wanted && not b) ≡ (i.wanted && eqb (if b then 0 else 0 + 1) 1)
    go true = refl
    go false = refl
live_counted (i ∷ j ∷ is) first = go i.ended refl (live_counted (j ∷ is) first.1)
  where
    go : (b : Bool) → i.ended ≡ b → newest_is_live (j ∷ is) ≡ (newest_wanted (j ∷ is) && eqb (open_of (j ∷ is)) 1) → (b && newest_is_live (j ∷ is)) ≡ (newest_wanted (j ∷ is) && eqb (if b then open_of (j ∷ is) else open_of (j ∷ is) + 1) 1)
    go true e rest = rest
    go false e rest =
        let some = all_counted is j (first.0 e) in
        let more : eqb (open_of (j ∷ is) + 1) 1 ≡ false = ne_eqb _ _ (λ same. absurd (omega arith)) in
        rw more (sym (and_right (newest_wanted (j ∷ is)) false refl))

-- whatever is open, the newest is
asked_counted : (is : List Incarnation) → EndedFirst is → newest_is_asked is ≡ (newest_wanted is && not (eqb (open_of is) 0))
asked_counted [] first = refl
asked_counted (i ∷ []) first = go i.ended
  where
    go : (b : Bool) → (i.wanted && not b) ≡ (i.wanted && not (eqb (if b then 0 else 0 + 1) 0))
    go true = refl
    go false = refl
asked_counted (i ∷ j ∷ is) first = go i.ended refl (asked_counted (j ∷ is) first.1)
  where
    go : (b : Bool) → i.ended ≡ b → newest_is_asked (j ∷ is) ≡ (newest_wanted (j ∷ is) && not (eqb (open_of (j ∷ is)) 0)) → newest_is_asked (j ∷ is) ≡ (newest_wanted (j ∷ is) && not (eqb (if b then open_of (j ∷ is) else open_of (j ∷ is) + 1) 0))
    go true e rest = rest
    go false e rest =
        let some = all_counted is j (first.0 e) in
        let one : eqb (open_of (j ∷ is)) 0 ≡ false = ne_eqb _ _ (λ same. absurd (omega arith)) in
        let two : eqb (open_of (j ∷ is) + 1) 0 ≡ false = ne_eqb _ _ (λ same. absurd (omega arith)) in
        rest ∙ ap (λ b. newest_wanted (j ∷ is) && not b) (one ∙ sym two)

-- ---- along a list of calls

record Tallies (t : ℤ) (h : Calls) : Type 0 where
  first : EndedFirst (incarnations t h)
  open_is : open_count t h ≡ open_of (incarnations t h)
  wanted_is : is_wanted t h ≡ newest_wanted (incarnations t h)

tallies : (t : ℤ) (h : Calls) → Tallies t h
tallies t [] = record { first = tt; open_is = refl; wanted_is = refl }
tallies t (asked id keys document ∷ h) = go (int_eq t id) refl (tallies t h)
  where
    go : (b : Bool) → int_eq t id ≡ b → Tallies t h → Tallies t (asked id keys document ∷ h)
    go true e rest = record { first = rw e (first_more (incarnations t h) rest.first); open_is = rw e (ap (λ n. n + 1) rest.open_is ∙ sym (open_more (incarnations t h))); wanted_is = rw e (sym (wanted_more (incarnations t h))) }
    go false e rest = record { first = rw e rest.first; open_is = rw e rest.open_is; wanted_is = rw e rest.wanted_is }
tallies t (unasked id ∷ h) = go (int_eq t id) refl (tallies t h)
  where
    go : (b : Bool) → int_eq t id ≡ b → Tallies t h → Tallies t (unasked id ∷ h)
    go true e rest = record { first = rw e (first_unasked (incarnations t h) rest.first); open_is = rw e (rest.open_is ∙ sym (open_unasked (incarnations t h))); wanted_is = rw e (sym (wanted_unasked (incarnations t h))) }
    go false e rest = record { first = rw e rest.first; open_is = rw e rest.open_is; wanted_is = rw e rest.wanted_is }
tallies t (came m ∷ h) = go (changes is_remove m t) refl (tallies t h)
  where
    go : (b : Bool) → changes is_remove m t ≡ b → Tallies t h → Tallies t (came m ∷ h)
    go true e rest = record { first = rw e (first_ended (incarnations t h) rest.first); open_is = rw e (ap (λ n. n - 1) rest.open_is ∙ sym (open_ended (incarnations t h))); wanted_is = rw e (rest.wanted_is ∙ sym (wanted_ended (incarnations t h))) }
    go false e rest = record { first = rw e rest.first; open_is = rw e rest.open_is; wanted_is = rw e rest.wanted_is }
tallies t (applied ∷ h) = let rest = tallies t h in record { first = rest.first; open_is = rest.open_is; wanted_is = rest.wanted_is }
tallies t (skipped ∷ h) = let rest = tallies t h in record { first = rest.first; open_is = rest.open_is; wanted_is = rest.wanted_is }

pub live_law : LiveIsCounted
live_law = record {
  live = λ t h. let c = tallies t h in (λ i. c.wanted_is i && eqb (c.open_is i) 1) ∙ sym (live_counted (incarnations t h) c.first);
  is_asked = λ t h. let c = tallies t h in (λ i. c.wanted_is i && not (eqb (c.open_is i) 0)) ∙ sym (asked_counted (incarnations t h) c.first);
}
