use Rattle.std.proofs.Common.{◌≡◌, ℤ, List, SFits, w32, pos, get_or, rules, take, Vec, Global, sym, ap, subst, ◌+◌, ◌∙◌, ◌++◌, ◌∷◌, [], arith}
use Rattle.std.proofs.lemmas.Bool.{false≢true}
use Rattle.std.proofs.lemmas.Int.{to_z-of_z}
use Rattle.std.specs.List.{AllPairs}
use Rattle.std.specs.Int.Signed.{◌<ℤ◌}
use Rattle.limbo_resolver.specs.Limbo.{ids_of}
use Rattle.listen_protocol.specs.Calls.{Calls}
use Rattle.sync_engine.specs.Dropping.{WasToldOne}
use Rattle.sync_engine.specs.Requesting.{Picked}
use Rattle.sync_engine.specs.Standing.{Kept}
use Rattle.sync_engine.proofs.Blanked.{all_taken}
use Rattle.sync_engine.proofs.Picking.{item_at, picked_less, picked_one}
use Rattle.sync_engine.proofs.client.Client.told_listens.Goals as goal
use Rattle.sync_engine.proofs.client.Client.told_listens.Goals.{then-was_told+in_ok-push, else-was_told}

pub loop-id-preserved : goal.loop-id-preserved
loop-id-preserved c =
    let running = c.as_slice-id-items.result.now in
    let ids = c.loop-id.ids.items in
    let n = c.loop-id.id-index in
    let x = get_or running n (pos 0) in
    let inside = c.loop-id-test.true in
    let at : x ≡ get_or running n x = item_at running n (pos 0) x inside in
    let ascending : AllPairs ◌<ℤ◌ running = subst (λ (l : List ℤ). AllPairs ◌<ℤ◌ l) (sym c.as_slice-id-items.ensures.value) c.in_ok-running.ensures.ascending in
    let P = λ (h : Calls) (t : ℤ). WasToldOne h t c.args.keys.now in
    let are = λ (h : Calls) (l : List ℤ). Picked (P h) (take (n + 1) running) l in
    let fits : SFits w32 x = search rules in
    let same = to_z-of_z w32 x fits in
    elim c.if-was_told.branch [
      | then-was_told+in_ok-push w ↦
          let is = ap (λ (v : Vec ℤ Global). v.items) w.ids-is ∙ w.in_ok-push.ensures.items ∙ ap (λ (y : ℤ). ids ++ y ∷ []) same in
          record {
            picked = λ h stands. subst (are h) (sym is)
                (picked_one (P h) running ids n x ascending inside at (c.loop-id.invariant.picked h stands) (subst (P h) same ((c.was_told.ensures h stands).0 w.if-was_told.true)));
          }
      | else-was_told w ↦
          let is = ap (λ (v : Vec ℤ Global). v.items) w.ids-is in
          record {
            picked = λ h stands. subst (are h) (sym is)
                (picked_less (P h) running ids n x ascending inside at (c.loop-id.invariant.picked h stands) (λ so. absurd (false≢true (sym w.if-was_told.false ∙ (c.was_told.ensures h stands).1 (subst (P h) (sym same) so)))));
          }
    ]

pub returns : goal.returns
returns c = λ h stands.
    let running = c.as_slice-id-items.result.now in
    let P = λ (t : ℤ). WasToldOne h t c.args.keys.now in
    let whole = all_taken running c.loop-id.id-index (omega (arith, c.loop-id-test.false, c.loop-id.auto.id-index-end)) in
    let same = c.as_slice-id-items.ensures.value ∙ c.in_ok-running.ensures.ids ∙ ap (λ (k : Kept). ids_of k.limbo.limbo.running) c.self.view_is in
    let it = subst (λ (l : List ℤ). Picked P l c.loop-id.ids.items) (whole ∙ same) (c.loop-id.invariant.picked h stands) in
    record { ascending = it.ascending; each = it.each }
