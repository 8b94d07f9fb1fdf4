use Rattle.std.proofs.Common.{◌≡◌, ℤ, ℕ, List, SFits, w32, pos, nat_abs, get_or, length, rules, take, Vec, Global, sym, ap, subst, ◌+◌, ◌<◌, ◌^◌, ◌∙◌, ◌++◌, ◌∷◌, [], ◌⊎◌, arith, map as each}
use Rattle.std.proofs.lemmas.Bool.{false≢true}
use Rattle.std.proofs.lemmas.Int.{to_z-of_z}
use Rattle.std.proofs.lemmas.List.Elements.{All-push}
use Rattle.std.specs.List.{All, Contains}
use Rattle.listen_protocol.specs.Calls.{Calls}
use Rattle.target_cache.specs.Kept.{AreIds}
use Rattle.target_cache.specs.declared.row.Row.{Row}
use Rattle.sync_engine.specs.Dropping.{HoldsOne}
use Rattle.sync_engine.specs.Requesting.{Picked}
use Rattle.sync_engine.specs.Standing.{Kept}
use Rattle.sync_engine.proofs.Blanked.{all_taken}
use Rattle.sync_engine.proofs.Holding.{IsPart, abs_is, are_blanked, are_known, are_spelled, id_of, ids_ascend_of, part_less, part_one, pos_low, pos_more}
use Rattle.sync_engine.proofs.Picking.{item_at, picked_less, picked_one}
use Rattle.sync_engine.proofs.client.Client.blanked_rows.Goals as goal
use Rattle.sync_engine.proofs.client.Client.blanked_rows.Goals.{then-is_blanked+in_ok-push, else-is_blanked}

pub loop-id-preserved : goal.loop-id-preserved
loop-id-preserved c =
    let ids = c.as_slice-id-items.result.now in
    let those = c.loop-id.those.items in
    let n = c.loop-id.id-index in
    let x = get_or ids n (pos 0) in
    let inside = c.loop-id-test.true in
    let at : x ≡ get_or ids n x = item_at ids n (pos 0) x inside in
    let are : AreIds c.targets.result.now.rows ids = subst (λ (l : List ℤ). AreIds c.targets.result.now.rows l) (sym c.as_slice-id-items.ensures.value) c.in_ok-ids.ensures in
    let ascending = ids_ascend_of c.targets.result.now.rows ids are in
    let P = λ (h : Calls) (t : ℤ). Contains c.args.ended.now t ⊎ HoldsOne c.args.self.now h t c.args.keys.now in
    let picked = λ (h : Calls) (l : List ℤ). Picked (P h) (take (n + 1) ids) l in
    let part = λ (l : List ℤ). IsPart (take (n + 1) ids) l in
    elim c.if-is_blanked.branch [
      | then-is_blanked+in_ok-push w ↦
          let fits : SFits w32 x = search rules in
          let z = nat_abs (Rattle.std.proofs.Common.to_z w32 (Rattle.std.proofs.Common.of_z w32 x)) in
          let x_is : x ≡ pos z = abs_is x _ _ (to_z-of_z w32 x fits) (id_of c.targets.result.now.rows ids are n (pos 0) inside) in
          let is : c.if-is_blanked.those.items ≡ those ++ z ∷ [] = ap (λ (v : Vec ℕ Global). v.items) w.those-is ∙ w.in_ok-push.ensures.items in
          let same : each pos those ++ x ∷ [] ≡ each pos c.if-is_blanked.those.items = pos_more those z x x_is ∙ ap (λ (l : List ℕ). each pos l) (sym is) in
          record {
            picked = λ h stands. subst (picked h) same (picked_one (P h) ids (each pos those) n x ascending inside at (c.loop-id.invariant.picked h stands) ((c.is_blanked.ensures h stands).0 w.if-is_blanked.true));
            part = subst part same (part_one ids (each pos those) n x ascending inside at c.loop-id.invariant.part);
            low = subst (λ (l : List ℕ). All (λ k. k < 2147483648) l) (sym is) (All-push (λ k. k < 2147483648) those z c.loop-id.invariant.low (pos_low z (subst (SFits w32) x_is fits)));
          }
      | else-is_blanked w ↦
          let is : c.if-is_blanked.those.items ≡ those = ap (λ (v : Vec ℕ Global). v.items) w.those-is in
          let same : each pos those ≡ each pos c.if-is_blanked.those.items = ap (λ (l : List ℕ). each pos l) (sym is) in
          record {
            picked = λ h stands. subst (picked h) same (picked_less (P h) ids (each pos those) n x ascending inside at (c.loop-id.invariant.picked h stands) (λ so. absurd (false≢true (sym w.if-is_blanked.false ∙ (c.is_blanked.ensures h stands).1 so))));
            part = subst part same (part_less ids (each pos those) n x ascending inside at c.loop-id.invariant.part);
            low = subst (λ (l : List ℕ). All (λ k. k < 2147483648) l) (sym is) c.loop-id.invariant.low;
          }
    ]

pub returns-clause-rows : goal.returns-clause-rows
returns-clause-rows c = λ h stands.
    let ids = c.as_slice-id-items.result.now in
    let rows = c.args.self.now.store.state.rows in
    let P = λ (t : ℤ). Contains c.args.ended.now t ⊎ HoldsOne c.args.self.now h t c.args.keys.now in
    let whole = all_taken ids c.loop-id.id-index (omega (arith, c.loop-id-test.false, c.loop-id.auto.id-index-end)) in
    let are : AreIds rows ids = subst (λ (l : List Row). AreIds l ids) (c.targets.ensures ∙ ap (λ (k : Kept). k.store.state.rows) c.self.view_is) (subst (λ (l : List ℤ). AreIds c.targets.result.now.rows l) (sym c.as_slice-id-items.ensures.value) c.in_ok-ids.ensures) in
    are_blanked c.args.self.now h c.args.ended.now ids c.args.keys.now c.loop-id.those.items are (subst (λ (l : List ℤ). Picked P l (each pos c.loop-id.those.items)) whole (c.loop-id.invariant.picked h stands))

pub returns-clause-known : goal.returns-clause-known
returns-clause-known c =
    let ids = c.as_slice-id-items.result.now in
    let rows = c.args.self.now.store.state.rows in
    let whole = all_taken ids c.loop-id.id-index (omega (arith, c.loop-id-test.false, c.loop-id.auto.id-index-end)) in
    let are : AreIds rows ids = subst (λ (l : List Row). AreIds l ids) (c.targets.ensures ∙ ap (λ (k : Kept). k.store.state.rows) c.self.view_is) (subst (λ (l : List ℤ). AreIds c.targets.result.now.rows l) (sym c.as_slice-id-items.ensures.value) c.in_ok-ids.ensures) in
    are_known rows ids c.loop-id.those.items are (subst (λ (l : List ℤ). IsPart l (each pos c.loop-id.those.items)) whole c.loop-id.invariant.part)

pub returns-clause-spelled : goal.returns-clause-spelled
returns-clause-spelled c = are_spelled (take c.loop-id.id-index c.as_slice-id-items.result.now) c.loop-id.those.items (subst (λ (l : List ℕ). length l < 2 ^ 64) c.as_slice-count.ensures.value c.as_slice-count.type_inv.0) c.loop-id.invariant.low c.loop-id.invariant.part
