use Rattle.std.proofs.Common.{◌≡◌, List, Some, sym, ap, subst, ◌∙◌, arith}
use Rattle.std.specs.List.{Contains}
use Rattle.listeners.specs.Table.{target_of}
use Rattle.sync_engine.specs.declared.current.CurrentTarget.{CurrentTarget}
use Rattle.sync_engine.specs.Standing.{Kept}
use Rattle.sync_engine.proofs.Moved.{current_among, has_all}
use Rattle.sync_engine.proofs.client.Client.put_current.Goals as goal

pub returns-clause-each : goal.returns-clause-each
returns-clause-each c = λ id t is some.
    let it = current_among c.args.self.now.watch.current.targets.items t some in
    (has_all (λ (target : CurrentTarget) id. target_of c.args.self.now.listeners id ≡ Some target.id) c.as_slice-target-items.result.now c.loop-target.target-index _ _ (omega (arith, c.loop-target-test.false, c.loop-target.auto.target-index-end)) c.loop-target.invariant).each
    it.0 (subst (λ (l : List CurrentTarget). Contains l it.0) (ap (λ (k : Kept). k.watch.current.targets.items) (sym c.self.view_is) ∙ sym c.as_slice-target-items.ensures.value) it.1) id (is ∙ ap Some (sym it.2))
