use Rattle.std.proofs.Common.{◌≡◌, ◌∙◌, Some, None, ap, sym}
use Rattle.listeners.proofs.Standing.{at, is_there, keeps_ids, none_among, some_among}
use Rattle.listeners.proofs.places.Places.put.Goals as goal

pub returns-in-Some-clause-kept : goal.returns-in-Some-clause-kept
returns-in-Some-clause-kept c =
    let was : at c.args.self.now.ids.entries c.args.place.now ≡ Some c.in-Some.ids.now = sym c.in-Some.ensures.value in
    let wrote = (c.get_mut.follows.holds c.put.new.ids).3 (is_there _ _ was) in
    keeps_ids c.args.self.now.ids.entries (c.get_mut.follows.lender c.put.new.ids).entries c.args.place.now (Some c.put.new.ids) wrote.0
    (λ x here. c.put.ensures.kept x (sym (some_among (at c.args.self.now.ids.entries c.args.place.now) c.in-Some.ids.now was x) ∙ here))

pub returns-in_ok-insert-in-None-clause-kept : goal.returns-in_ok-insert-in-None-clause-kept
returns-in_ok-insert-in-None-clause-kept c =
    let none : at c.args.self.now.ids.entries c.in_ok-copy-in-None.field-0 ≡ None = ap (at c.args.self.now.ids.entries) c.in_ok-copy-in-None.ensures ∙ sym c.in-None.ensures.value in
    let updates = (rw c.get_mut.follows.holds-at-none at c.in_ok-insert-in-None.ensures.updates) in
    keeps_ids c.args.self.now.ids.entries c.insert.new.self.entries c.in_ok-copy-in-None.field-0 (Some c.in_ok-ids-in-None.ids) updates.0
    (λ x here. absurd (none_among (at c.args.self.now.ids.entries c.in_ok-copy-in-None.field-0) none x here))
