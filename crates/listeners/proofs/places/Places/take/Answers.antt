use Rattle.std.proofs.Common.{◌≡◌, ◌∙◌, Some, None, sym}
use Rattle.listeners.proofs.Ids.{has_none, has_rest}
use Rattle.listeners.proofs.Standing.{at, keeps_others, is_there, some_among}
use Rattle.listeners.proofs.places.Places.take.Goals as goal

pub returns-then-take : goal.returns-then-take
returns-then-take c =
    let was : at c.args.self.now.ids.entries c.args.place.now ≡ Some c.in-Some.ids.now = sym c.in-Some.ensures.value in
    let wrote = (c.get_mut.follows.holds c.take.new.ids).3 (is_there _ _ was) in
    let left = (c.get_mut.follows.lender c.take.new.ids).entries in
    λ place q other there.
    keeps_others left c.remove.new.self.entries c.args.place.now None c.remove.ensures.updates.0 c.args.id
    (λ x apart here. absurd (has_none c.take.new.ids (c.take.ensures.none.0 c.if-take.true) x (sym (some_among (at left c.args.place.now) c.take.new.ids wrote.1 x) ∙ here))) place q other
    (keeps_others c.args.self.now.ids.entries left c.args.place.now (Some c.take.new.ids) wrote.0 c.args.id
    (λ x apart here. has_rest c.in-Some.ids.now c.take.new.ids c.args.id c.take.ensures.done x apart (sym (some_among (at c.args.self.now.ids.entries c.args.place.now) c.in-Some.ids.now was x) ∙ here)) place q other there)

pub returns-else-take : goal.returns-else-take
returns-else-take c =
    let was : at c.args.self.now.ids.entries c.args.place.now ≡ Some c.in-Some.ids.now = sym c.in-Some.ensures.value in
    let wrote = (c.get_mut.follows.holds c.take.new.ids).3 (is_there _ _ was) in
    keeps_others c.args.self.now.ids.entries (c.get_mut.follows.lender c.take.new.ids).entries c.args.place.now (Some c.take.new.ids) wrote.0 c.args.id
    (λ x apart here. has_rest c.in-Some.ids.now c.take.new.ids c.args.id c.take.ensures.done x apart (sym (some_among (at c.args.self.now.ids.entries c.args.place.now) c.in-Some.ids.now was x) ∙ here))
