use Rattle.std.proofs.Common.{◌≡◌, ◌∙◌, IsTrue, Some, None, ap, refl, subst, sym}
use Rattle.std.specs.Option.{is_some, IsSome}
use Rattle.std.specs.Result.{OnErr}
use Rattle.key_table.specs.Table.{SameValues, value_at}
use Rattle.key_table.proofs.Tables.{changed, found, stays}
use Rattle.key_table.proofs.table.KeyTable.insert.Goals as goal

pub invariant_of-self : goal.invariant_of-self
invariant_of-self g c =
    let there : IsSome (value_at c.self.inside.places.entries c.args.key) = subst (λ o. IsTrue (is_some o)) (c.in-Some.ensures.value ∙ found c.self.inside.places.entries c.args.key) refl in
    let wrote = (c.get_mut.follows.holds c.args.value).3 (subst IsSome c.in-Some.ensures.value refl) in
    stays c.self.inside.places.entries (c.get_mut.follows.lender c.args.value).entries c.args.key c.args.value c.self.inside.order
    (changed c.self.inside.places.entries (c.get_mut.follows.lender c.args.value).entries c.args.key (Some c.args.value) wrote.0) there c.self.invariant

pub returns-in-Some-clause-done : goal.returns-in-Some-clause-done
returns-in-Some-clause-done g c =
    let wrote = (c.get_mut.follows.holds c.args.value).3 (subst IsSome c.in-Some.ensures.value refl) in
    λ q. rw (← c.self.view_is) (changed c.self.inside.places.entries (c.get_mut.follows.lender c.args.value).entries c.args.key (Some c.args.value) wrote.0 q)

pub add-requires : goal.add-requires
add-requires g c =
    let none : value_at c.self.inside.places.entries c.args.key ≡ None = sym (c.in_default.ensures.value ∙ found c.self.inside.places.entries c.args.key) in
    ap (λ m. value_at m.entries c.args.key) c.get_mut.follows.holds-at-none ∙ none

pub returns-clause-undone : goal.returns-clause-undone
returns-clause-undone g c =
    let same = ap (λ m. m.entries) c.get_mut.follows.holds-at-none ∙ c.self.view_is in
    subst (λ t. OnErr c.add.result (SameValues t c.add.new.self)) same c.add.ensures.undone

pub returns-clause-kept : goal.returns-clause-kept
returns-clause-kept g c =
    let none : None ≡ value_at c.args.self.now c.args.key = c.in_default.ensures.value ∙ found c.self.inside.places.entries c.args.key ∙ ap (λ t. value_at t c.args.key) c.self.view_is in
    λ there. let was = subst (λ o. IsTrue (is_some o)) (sym none) there in cc
