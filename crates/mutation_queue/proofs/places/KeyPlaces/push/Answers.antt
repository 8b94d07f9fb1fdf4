use Rattle.std.proofs.Common.{◌≡◌, ◌∙◌, IsTrue, Some, None, true, false, refl, ap, subst, sym}
use Rattle.mutation_queue.specs.Places.{ends_in, listed_in, room_in, value_at, with_place}
use Rattle.mutation_queue.proofs.Tables.{changed, found, put_listed, put_others, some_of}
use Rattle.mutation_queue.proofs.places.KeyPlaces.push.Goals as goal

pub returns-in_default-clause-places : goal.returns-in_default-clause-places
returns-in_default-clause-places c =
    let none : value_at c.args.self.now c.args.key.now ≡ None = ap (λ t. value_at t c.args.key.now) (sym c.self.view_is) ∙ sym (found c.self.inside.lists.entries c.args.key.now) ∙ sym c.in_default.ensures.value in
    let room = subst (λ o. ends_in c.args.place (listed_in o) ≡ false → IsTrue (room_in o)) none c.requires in
    let never : false ≡ true = room refl in
    cc

pub push-requires : goal.push-requires
push-requires c =
    let some : value_at c.args.self.now c.args.key.now ≡ Some c.in-Some.places.now = ap (λ t. value_at t c.args.key.now) (sym c.self.view_is) ∙ sym (found c.self.inside.lists.entries c.args.key.now) ∙ sym c.in-Some.ensures.value in
    subst (λ o. ends_in c.args.place (listed_in o) ≡ false → IsTrue (room_in o)) some c.requires

pub returns-clause-places : goal.returns-clause-places
returns-clause-places c =
    let old = c.self.inside.lists.entries in
    let key = c.args.key.now in
    let was : value_at old key ≡ Some c.in-Some.places.now = sym (found old key) ∙ sym c.in-Some.ensures.value in
    let new = (c.get_mut.follows.lender c.push.new.self).entries in
    let wrote = (c.get_mut.follows.holds c.push.new.self).3 (some_of _ _ (sym c.in-Some.ensures.value)) in
    λ q. rw (← c.self.view_is) (put_listed old new key q (Some c.push.new.self) (with_place c.args.place) (changed old new key (Some c.push.new.self) q (wrote.0 q)) (c.push.ensures ∙ ap (λ o. with_place c.args.place (listed_in o)) (sym was)))

pub returns-clause-others : goal.returns-clause-others
returns-clause-others c =
    let old = c.self.inside.lists.entries in
    let new = (c.get_mut.follows.lender c.push.new.self).entries in
    let wrote = (c.get_mut.follows.holds c.push.new.self).3 (some_of _ _ (sym c.in-Some.ensures.value)) in
    λ q other. rw (← c.self.view_is) (put_others old new c.args.key.now q (Some c.push.new.self) (changed old new c.args.key.now (Some c.push.new.self) q (wrote.0 q)) other)
