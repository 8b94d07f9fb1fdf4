use Rattle.std.proofs.Common.{◌≡◌, ◌≤◌, ◌∙◌, ℕ, List, length, sym, ap, subst, arith}
use Rattle.std.specs.List.{insert}
use Rattle.target_cache.specs.declared.row.Row.{Row}
use Rattle.target_cache.specs.Cache.{Cache, id_at}
use Rattle.target_cache.specs.Kept.{IsNew, IsSound}
use Rattle.target_cache.specs.Order.{IsLower, targets_in}
use Rattle.target_cache.proofs.Growing.{grown}
use Rattle.target_cache.proofs.cache.TargetCache.allocate.Goals as goal

pub invariant_of-self : goal.invariant_of-self
invariant_of-self c =
    let rows = c.self.inside.rows.items in
    let order = c.self.inside.order.items in
    let target = c.args.target in
    let at = c.lower-at.result in
    let same = ap (λ (k : Cache). k.rows) c.self.view_is ∙ c.reserve.ensures.same in
    let new = subst (λ (rs : List Row). IsNew rs target) (sym same) c.requires in
    let first = subst (λ (rs : List Row). IsLower (targets_in rs c.as_slice-2.result.now) target at) c.as_slice.ensures.value c.lower-at.ensures in
    let is = subst (λ (ps : List ℕ). IsLower (targets_in rows ps) target at) c.as_slice-2.ensures.value first in
    let long = ap length same in
    let few : id_at (length rows) ≤ 2147483646 = omega (arith, long, c.next_id.ensures, c.if-next_id-gt-LAST_ID.false) in
    let place : c.len-place.result ≡ length rows = omega (arith, c.len-place.ensures) in
    let sound = grown rows order target at c.self.invariant new is few in
    subst (λ (rs : List Row). IsSound rs c.insert_reserved.new.order.items) (sym c.push_reserved.ensures.items)
    (subst (IsSound _) (sym (c.insert_reserved.ensures.items ∙ ap (insert order at) place)) sound)
