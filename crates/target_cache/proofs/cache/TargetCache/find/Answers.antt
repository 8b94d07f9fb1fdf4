use Rattle.std.proofs.Common.{◌≡◌, ◌∙◌, List, ℤ, pos, Some, w32, sym, subst}
use Rattle.std.proofs.lemmas.Int.{to_z-of_z}
use mir.Val.{of_z, to_z}
use Rattle.target_cache.specs.declared.row.Row.{Row}
use Rattle.target_cache.specs.Cache.{TellsId, id_at}
use Rattle.target_cache.specs.Order.{IsPlaceOf}
use Rattle.target_cache.proofs.Finding.{tells_none, tells_some}
use Rattle.target_cache.proofs.cache.TargetCache.find.Goals as goal

pub returns-in-None : goal.returns-in-None
returns-in-None c =
    let none = rw (c.as_slice.ensures.value, c.as_slice-2.ensures.value) at c.in-None.ensures in
    rw (← c.self.view_is) (tells_none c.self.inside.rows.items c.self.inside.order.items c.args.target.now c.self.invariant none)

pub returns-in-Some : goal.returns-in-Some
returns-in-Some c =
    let rows = c.self.inside.rows.items in
    let at = subst (λ (rs : List Row). IsPlaceOf rs c.args.target.now c.in-Some.place) c.as_slice.ensures.value c.in-Some.ensures in
    let is : to_z w32 (of_z w32 c.id_of.result) ≡ pos (id_at c.in-Some.place) = to_z-of_z w32 c.id_of.result (record { sfits = c.id_of.type_inv }) ∙ c.id_of.ensures in
    rw (← c.self.view_is) (subst (λ (z : ℤ). TellsId rows c.args.target.now (Some z)) (sym is) (tells_some rows c.self.inside.order.items c.args.target.now c.self.invariant c.in-Some.place at))
