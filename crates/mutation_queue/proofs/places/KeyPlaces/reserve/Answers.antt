use Rattle.std.proofs.Common.{◌≡◌, ◌∙◌, IsTrue, Some, None, rules, ap, subst, sym}
use Rattle.std.specs.Result.{OnOk}
use Rattle.mutation_queue.specs.Places.{has_room, listed_in, room_in, value_at}
use Rattle.mutation_queue.proofs.Tables.{changed, found, put_here, some_of, still_listed, still_room}
use Rattle.mutation_queue.proofs.places.KeyPlaces.reserve.Goals as goal

pub returns-in-Some-clause-same : goal.returns-in-Some-clause-same
returns-in-Some-clause-same c =
    let old = c.self.inside.lists.entries in
    let key = c.args.key.now in
    let was : value_at old key ≡ Some c.in-Some.places.now = sym (found old key) ∙ sym c.in-Some.ensures.value in
    let new = (c.get_mut.follows.lender c.reserve.new.self).entries in
    let wrote = (c.get_mut.follows.holds c.reserve.new.self).3 (some_of _ _ (sym c.in-Some.ensures.value)) in
    λ q. rw (← c.self.view_is) (still_listed old new key q (Some c.reserve.new.self) (changed old new key (Some c.reserve.new.self) q (wrote.0 q)) (c.reserve.ensures.same ∙ ap listed_in (sym was)))

pub returns-in-Some-clause-held : goal.returns-in-Some-clause-held
returns-in-Some-clause-held c =
    let old = c.self.inside.lists.entries in
    let key = c.args.key.now in
    let was : value_at old key ≡ Some c.in-Some.places.now = sym (found old key) ∙ sym c.in-Some.ensures.value in
    let new = (c.get_mut.follows.lender c.reserve.new.self).entries in
    let wrote = (c.get_mut.follows.holds c.reserve.new.self).3 (some_of _ _ (sym c.in-Some.ensures.value)) in
    λ q none. rw (← c.self.view_is) (still_room old new key q (Some c.reserve.new.self) (changed old new key (Some c.reserve.new.self) q (wrote.0 q)) (λ room. c.reserve.ensures.held (subst (λ o. IsTrue (room_in o)) was room)))

pub returns-in-Some-clause-room : goal.returns-in-Some-clause-room
returns-in-Some-clause-room c =
    let old = c.self.inside.lists.entries in
    let key = c.args.key.now in
    let new = (c.get_mut.follows.lender c.reserve.new.self).entries in
    let wrote = (c.get_mut.follows.holds c.reserve.new.self).3 (some_of _ _ (sym c.in-Some.ensures.value)) in
    let here : value_at new key ≡ Some c.reserve.new.self = put_here old new key (Some c.reserve.new.self) (changed old new key (Some c.reserve.new.self) key (wrote.0 key)) in
    subst (λ o. OnOk c.reserve.result (IsTrue (room_in o))) (sym here) c.reserve.ensures.room

pub returns-in-Some-clause-kept : goal.returns-in-Some-clause-kept
returns-in-Some-clause-kept c =
    let some : value_at c.args.self.now c.args.key.now ≡ Some c.in-Some.places.now = ap (λ t. value_at t c.args.key.now) (sym c.self.view_is) ∙ sym (found c.self.inside.lists.entries c.args.key.now) ∙ sym c.in-Some.ensures.value in
    λ room. c.reserve.ensures.kept (subst (λ o. IsTrue (room_in o)) some room)

pub returns-in_err-copy-clause-kept : goal.returns-in_err-copy-clause-kept
returns-in_err-copy-clause-kept c =
    let none : value_at c.args.self.now c.args.key.now ≡ None = ap (λ t. value_at t c.args.key.now) (sym c.self.view_is) ∙ sym (found c.self.inside.lists.entries c.args.key.now) ∙ sym c.in_default.ensures.value in
    λ room. let had = subst (λ o. IsTrue (room_in o)) none room in cc

pub returns-in_err-insert-clause-kept : goal.returns-in_err-insert-clause-kept
returns-in_err-insert-clause-kept c =
    let none : value_at c.args.self.now c.args.key.now ≡ None = ap (λ t. value_at t c.args.key.now) (sym c.self.view_is) ∙ sym (found c.self.inside.lists.entries c.args.key.now) ∙ sym c.in_default.ensures.value in
    λ room. let had = subst (λ o. IsTrue (room_in o)) none room in cc

pub returns-clause-same : goal.returns-clause-same
returns-clause-same c =
    let middle = c.get_mut.follows.lender-at-none.entries in
    let new = c.insert.new.self.entries in
    let key = c.in_ok-copy.field-0 in
    let none : value_at c.args.self.now c.args.key.now ≡ None = ap (λ t. value_at t c.args.key.now) (sym c.self.view_is) ∙ sym (found c.self.inside.lists.entries c.args.key.now) ∙ sym c.in_default.ensures.value in
    let before : value_at middle key ≡ None = (let same : value_at middle key ≡ value_at c.args.self.now key = search rules in same) ∙ ap (value_at c.args.self.now) c.in_ok-copy.ensures ∙ none in
    λ q.
    let same : value_at middle q ≡ value_at c.args.self.now q = search rules in
    still_listed middle new key q (Some c.new.result) (changed middle new key (Some c.new.result) q (c.in_ok-insert.ensures.updates.0 q)) (c.new.ensures.at ∙ ap listed_in (sym before)) ∙ ap listed_in same

pub returns-clause-held : goal.returns-clause-held
returns-clause-held c =
    let middle = c.get_mut.follows.lender-at-none.entries in
    let new = c.insert.new.self.entries in
    let key = c.in_ok-copy.field-0 in
    λ q none room.
    let same : value_at middle q ≡ value_at c.args.self.now q = search rules in
    still_room middle new key q (Some c.new.result) (changed middle new key (Some c.new.result) q (c.in_ok-insert.ensures.updates.0 q)) (λ _. c.new.ensures.room) (subst (λ o. IsTrue (room_in o)) (sym same) room)

pub returns-clause-room : goal.returns-clause-room
returns-clause-room c =
    let middle = c.get_mut.follows.lender-at-none.entries in
    let new = c.insert.new.self.entries in
    let key = c.in_ok-copy.field-0 in
    let here : value_at new key ≡ Some c.new.result = put_here middle new key (Some c.new.result) (changed middle new key (Some c.new.result) key (c.in_ok-insert.ensures.updates.0 key)) in
    subst (λ k. IsTrue (has_room new k)) c.in_ok-copy.ensures (subst (λ o. IsTrue (room_in o)) (sym here) c.new.ensures.room)
