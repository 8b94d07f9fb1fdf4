use Rattle.std.proofs.Common.{◌≡◌, ◌∙◌, Some, None, ap, sym, w32}
use Rattle.std.proofs.lemmas.Int.{to_z-of_z}
use Rattle.listeners.proofs.Targeted.{at, ids_ascending, ids_there, no_member, none_there}
use Rattle.listeners.proofs.listeners.Listeners.of_target.Goals as goal

pub returns-in-Some-clause-ascending : goal.returns-in-Some-clause-ascending
returns-in-Some-clause-ascending c = ids_ascending c.in-Some.ids.now c.to_vec.result c.to_vec.ensures.items c.to_vec.ensures.ordered

pub returns-in-Some-clause-members : goal.returns-in-Some-clause-members
returns-in-Some-clause-members c =
    let index = c.self.inside.indexes.targets.ids.entries in
    let there : at index c.args.target ≡ Some c.in-Some.ids.now = sym (ap (at index) (to_z-of_z w32 c.args.target c.ranges.target)) ∙ sym c.in-Some.ensures in
    rw (← c.self.view_is) (ids_there c.self.inside.listeners.entries index c.args.target c.self.invariant.targeted c.in-Some.ids.now there c.to_vec.result c.to_vec.ensures.items)

pub returns-in-None-clause-members : goal.returns-in-None-clause-members
returns-in-None-clause-members c =
    let index = c.self.inside.indexes.targets.ids.entries in
    let none : at index c.args.target ≡ None = sym (ap (at index) (to_z-of_z w32 c.args.target c.ranges.target)) ∙ sym c.in-None.ensures in
    rw (← c.self.view_is) (λ id. (
      λ there. absurd (no_member c.new.result.items id c.new.ensures.items there),
      λ listens. absurd (none_there c.self.inside.listeners.entries index c.args.target c.self.invariant.targeted none id listens),
    ))
