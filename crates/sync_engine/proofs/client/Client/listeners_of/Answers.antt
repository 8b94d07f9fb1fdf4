use Rattle.std.proofs.Common.{◌≡◌, ◌↔◌, ℕ, ℤ, SFits, Some, arith, get_or, pos, rules, subst, w32}
use Rattle.std.proofs.lemmas.Int.{to_z-of_z}
use Rattle.std.specs.List.{Contains}
use Rattle.listeners.specs.Table.{target_of}
use Rattle.sync_engine.specs.Standing.{Kept}
use Rattle.sync_engine.proofs.Blanked.{HasBeside, are_listeners, listeners_more}
use Rattle.sync_engine.proofs.client.Client.listeners_of.Goals as goal

pub loop-target-preserved : goal.loop-target-preserved
loop-target-preserved c =
    let x = get_or c.args.targets.now c.loop-target.target-index (pos 0) in
    let fits : SFits w32 x = search rules in
    record {
      gathered = listeners_more c.args.self.now.listeners c.args.targets.now c.loop-target.target-index c.in_ok-ids.ids.items c.loop-target.set c.put_all.new.set c.loop-target-test.true c.loop-target.invariant.gathered
          (subst (λ (k : Kept). (q : ℕ) → Contains c.in_ok-ids.ids.items q ↔ (target_of k.listeners q ≡ Some x)) c.self.view_is
          (subst (λ (z : ℤ). (q : ℕ) → Contains c.in_ok-ids.ids.items q ↔ (target_of c.self.inside.listeners q ≡ Some z)) (to_z-of_z w32 x fits) c.in_ok-ids.ensures.members))
          (subst (HasBeside c.loop-target.set c.put_all.new.set) c.as_slice.ensures.value c.in_ok-put_all.ensures);
    }

pub returns : goal.returns
returns c = are_listeners c.args.self.now.listeners c.args.targets.now c.loop-target.target-index c.loop-target.set c.in_ok-ids-2.ids.items (omega (arith, c.loop-target-test.false, c.loop-target.auto.target-index-end)) c.loop-target.invariant.gathered c.in_ok-ids-2.ensures.ascending c.in_ok-ids-2.ensures.all c.in_ok-ids-2.ensures.only
