use Rattle.std.proofs.Common.{ℕ, ◌+◌, ◌<◌, ◌^◌, IsTrue, SFits, ap, arith, get_or, pos, rules, refl, subst, sym, take, w32, ◌∙◌}
use Rattle.std.specs.BTreeSet.{BTreeSet}
use Rattle.listeners.specs.Ids.{has_id}
use Rattle.std.proofs.lemmas.Int.{to_z-of_z}
use Rattle.sync_engine.specs.Standing.{Kept}
use Rattle.sync_engine.proofs.Blanked.{HasRowsOf, abs_low, rows_are, rows_low, row_added, row_passed, set_low}
use Rattle.sync_engine.proofs.client.Client.rows_of.Goals as goal
use Rattle.sync_engine.proofs.client.Client.rows_of.Goals.{then-is_some+in_ok-insert, else-is_some}

pub loop-id-preserved : goal.loop-id-preserved
loop-id-preserved c =
    let rows = c.args.self.now.store.state.rows in
    let ids = c.args.ids.now in
    let n = c.loop-id.id-index in
    let x = get_or ids n (pos 0) in
    let fits : SFits w32 x = search rules in
    let same = c.targets.ensures ∙ ap (λ (k : Kept). k.store.state.rows) c.self.view_is in
    elim c.if-is_some.branch [
      | then-is_some+in_ok-insert w ↦ record {
        rows = subst (HasRowsOf rows (take (n + 1) ids)) (sym w.set-is) (row_added (λ r. r.now) _ rows ids n c.loop-id.set _ _ c.row.result _ c.loop-id-test.true c.loop-id.invariant.rows same (to_z-of_z w32 x fits) c.row.ensures (sym c.is_some.ensures ∙ w.if-is_some.true) refl w.in_ok-insert.ensures.updates.0);
        low = subst (λ (s : BTreeSet ℕ). (m : ℕ) → IsTrue (has_id s m) → m < 2 ^ 32) (sym w.set-is) (set_low c.loop-id.set _ _ c.loop-id.invariant.low (abs_low _ (subst (SFits w32) (sym (to_z-of_z w32 x fits)) fits)) w.in_ok-insert.ensures.updates.0);
      }
      | else-is_some w ↦ record {
        rows = subst (HasRowsOf rows (take (n + 1) ids)) (sym w.set-is) (row_passed (λ r. r.now) _ rows ids n c.loop-id.set _ c.row.result c.loop-id-test.true c.loop-id.invariant.rows same (to_z-of_z w32 x fits) c.row.ensures (sym c.is_some.ensures ∙ w.if-is_some.false));
        low = subst (λ (s : BTreeSet ℕ). (m : ℕ) → IsTrue (has_id s m) → m < 2 ^ 32) (sym w.set-is) c.loop-id.invariant.low;
      }
    ]

pub returns-clause-rows : goal.returns-clause-rows
returns-clause-rows c = rows_are c.args.self.now.store.state.rows c.args.ids.now c.loop-id.id-index c.loop-id.set c.in_ok-those.those.items (omega (arith, c.loop-id-test.false, c.loop-id.auto.id-index-end)) c.loop-id.invariant.rows c.in_ok-those.ensures.ascending c.in_ok-those.ensures.all c.in_ok-those.ensures.only

pub returns-clause-low : goal.returns-clause-low
returns-clause-low c = rows_low c.loop-id.set c.in_ok-those.those.items c.loop-id.invariant.low c.in_ok-those.ensures.only
