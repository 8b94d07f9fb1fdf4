use Rattle.std.proofs.Common.{◌≡◌, ◌∙◌, IsTrue, Some, None, ap, refl, subst, sym}
use Rattle.std.specs.Option.{is_some, IsSome}
use Rattle.key_table.specs.Table.{value_at}
use Rattle.key_table.proofs.Tables.{changed, found, stays}
use Rattle.key_table.proofs.table.KeyTable.set.Goals as goal

pub returns-in_default : goal.returns-in_default
returns-in_default g c =
    let none : None ≡ value_at c.args.self.now c.args.key.now = c.in_default.ensures.value ∙ found c.self.inside.places.entries c.args.key.now ∙ ap (λ t. value_at t c.args.key.now) c.self.view_is in
    let there = subst (λ o. IsTrue (is_some o)) (sym none) c.requires in
    cc

pub invariant_of-self-2 : goal.invariant_of-self-2
invariant_of-self-2 g c =
    let there : IsSome (value_at c.self.inside.places.entries c.args.key.now) = subst (λ o. IsTrue (is_some o)) (c.in-Some.ensures.value ∙ found c.self.inside.places.entries c.args.key.now) refl in
    let wrote = (c.get_mut.follows.holds c.args.value).3 (subst IsSome c.in-Some.ensures.value refl) in
    stays c.self.inside.places.entries (c.get_mut.follows.lender c.args.value).entries c.args.key.now c.args.value c.self.inside.order
    (changed c.self.inside.places.entries (c.get_mut.follows.lender c.args.value).entries c.args.key.now (Some c.args.value) wrote.0) there c.self.invariant

pub returns : goal.returns
returns g c =
    let wrote = (c.get_mut.follows.holds c.args.value).3 (subst IsSome c.in-Some.ensures.value refl) in
    λ q. rw (← c.self.view_is) (changed c.self.inside.places.entries (c.get_mut.follows.lender c.args.value).entries c.args.key.now (Some c.args.value) wrote.0 q)
