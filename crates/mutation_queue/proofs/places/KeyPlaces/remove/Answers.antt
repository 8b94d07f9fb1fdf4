use Rattle.std.proofs.Common.{◌≡◌, ◌∙◌, List, ℕ, [], ◌∷◌, length, rules, Some, None, refl, ap, subst, sym, arith}
use Rattle.std.specs.Option.{is_some}
use Rattle.mutation_queue.specs.Places.{Places, Table, listed_in, value_at, without_place}
use Rattle.mutation_queue.proofs.Tables.{changed, changed_twice, found, none_listed, put_here, put_listed, put_others, some_of}
use Rattle.mutation_queue.proofs.places.KeyPlaces.remove.Goals as goal

pub returns-in_default-clause-places : goal.returns-in_default-clause-places
returns-in_default-clause-places c =
    let none : value_at c.args.self.now c.args.key.now ≡ None = ap (λ t. value_at t c.args.key.now) (sym c.self.view_is) ∙ sym (found c.self.inside.lists.entries c.args.key.now) ∙ sym c.in_default.ensures.value in
    λ q.
    let same : value_at c.get_mut.follows.lender-at-none.entries q ≡ value_at c.args.self.now q = search rules in
    none_listed c.args.self.now c.get_mut.follows.lender-at-none.entries c.args.key.now q None (without_place c.args.place) same (subst (λ o. listed_in o ≡ without_place c.args.place (listed_in o)) (sym none) refl)

pub returns-in_default-clause-gone : goal.returns-in_default-clause-gone
returns-in_default-clause-gone c =
    let key = c.args.key.now in
    let none : value_at c.args.self.now key ≡ None = ap (λ t. value_at t key) (sym c.self.view_is) ∙ sym (found c.self.inside.lists.entries key) ∙ sym c.in_default.ensures.value in
    let same : value_at c.get_mut.follows.lender-at-none.entries key ≡ value_at c.args.self.now key = search rules in
    λ empty. ap is_some (same ∙ none)

-- what the table has after the key's list was changed
after : (old new : Table) (key : List (List ℕ)) (was now : Places) (place : ℕ) → now.at ≡ without_place place was.at → value_at old key ≡ Some was → listed_in (Some now) ≡ without_place place (listed_in (value_at old key))
after old new key was now place is had = is ∙ ap (λ o. without_place place (listed_in o)) (sym had)

empty_of : (l : List ℕ) → length l ≡ 0 → l ≡ []
empty_of [] none = refl
empty_of (x ∷ xs) none = absurd (omega (arith, none))

pub returns-then-len-eq0-clause-places : goal.returns-then-len-eq0-clause-places
returns-then-len-eq0-clause-places c =
    let old = c.self.inside.lists.entries in
    let key = c.args.key.now in
    let was : value_at old key ≡ Some c.in-Some.places.now = sym (found old key) ∙ sym c.in-Some.ensures.value in
    let middle = (c.get_mut.follows.lender c.remove.new.self).entries in
    let wrote = (c.get_mut.follows.holds c.remove.new.self).3 (some_of _ _ (sym c.in-Some.ensures.value)) in
    let empty : [] ≡ c.remove.new.self.at = sym (empty_of c.remove.new.self.at (sym c.len.ensures ∙ c.if-len-eq0.true)) in
    λ q. rw (← c.self.view_is) (put_listed old c.forget.new.self key q None (without_place c.args.place)
    (changed_twice old middle c.forget.new.self key (Some c.remove.new.self) None q (changed old middle key (Some c.remove.new.self) q (wrote.0 q)) (c.forget.ensures q))
    (empty ∙ after old middle key c.in-Some.places.now c.remove.new.self c.args.place c.remove.ensures was))

pub returns-then-len-eq0-clause-others : goal.returns-then-len-eq0-clause-others
returns-then-len-eq0-clause-others c =
    let old = c.self.inside.lists.entries in
    let key = c.args.key.now in
    let middle = (c.get_mut.follows.lender c.remove.new.self).entries in
    let wrote = (c.get_mut.follows.holds c.remove.new.self).3 (some_of _ _ (sym c.in-Some.ensures.value)) in
    λ q other. rw (← c.self.view_is) (put_others old c.forget.new.self key q None
    (changed_twice old middle c.forget.new.self key (Some c.remove.new.self) None q (changed old middle key (Some c.remove.new.self) q (wrote.0 q)) (c.forget.ensures q))
    other)

pub returns-then-len-eq0-clause-gone : goal.returns-then-len-eq0-clause-gone
returns-then-len-eq0-clause-gone c =
    let key = c.args.key.now in
    let middle = (c.get_mut.follows.lender c.remove.new.self).entries in
    λ empty. ap is_some (put_here middle c.forget.new.self key None (c.forget.ensures key))

pub returns-else-len-eq0-clause-places : goal.returns-else-len-eq0-clause-places
returns-else-len-eq0-clause-places c =
    let old = c.self.inside.lists.entries in
    let key = c.args.key.now in
    let was : value_at old key ≡ Some c.in-Some.places.now = sym (found old key) ∙ sym c.in-Some.ensures.value in
    let new = (c.get_mut.follows.lender c.remove.new.self).entries in
    let wrote = (c.get_mut.follows.holds c.remove.new.self).3 (some_of _ _ (sym c.in-Some.ensures.value)) in
    λ q. rw (← c.self.view_is) (put_listed old new key q (Some c.remove.new.self) (without_place c.args.place) (changed old new key (Some c.remove.new.self) q (wrote.0 q)) (after old new key c.in-Some.places.now c.remove.new.self c.args.place c.remove.ensures was))

pub returns-else-len-eq0-clause-others : goal.returns-else-len-eq0-clause-others
returns-else-len-eq0-clause-others c =
    let old = c.self.inside.lists.entries in
    let new = (c.get_mut.follows.lender c.remove.new.self).entries in
    let wrote = (c.get_mut.follows.holds c.remove.new.self).3 (some_of _ _ (sym c.in-Some.ensures.value)) in
    λ q other. rw (← c.self.view_is) (put_others old new c.args.key.now q (Some c.remove.new.self) (changed old new c.args.key.now (Some c.remove.new.self) q (wrote.0 q)) other)

pub returns-else-len-eq0-clause-gone : goal.returns-else-len-eq0-clause-gone
returns-else-len-eq0-clause-gone c =
    let old = c.self.inside.lists.entries in
    let key = c.args.key.now in
    let new = (c.get_mut.follows.lender c.remove.new.self).entries in
    let wrote = (c.get_mut.follows.holds c.remove.new.self).3 (some_of _ _ (sym c.in-Some.ensures.value)) in
    let here : value_at new key ≡ Some c.remove.new.self = put_here old new key (Some c.remove.new.self) (changed old new key (Some c.remove.new.self) key (wrote.0 key)) in
    λ empty.
    let none : length c.remove.new.self.at ≡ 0 = ap length (sym (ap listed_in here) ∙ empty) in
    absurd (c.if-len-eq0.false (c.len.ensures ∙ none))
