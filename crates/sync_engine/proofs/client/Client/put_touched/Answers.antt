use Rattle.std.proofs.Common.{List, arith, subst, sym}
use Rattle.std.specs.List.{Contains}
use Rattle.limbo_resolver.specs.Limbo.{Key}
use Rattle.listeners.specs.Concerns.{HasAllConcerned, IsConcerned}
use Rattle.sync_engine.specs.Standing.{Kept}
use Rattle.sync_engine.proofs.Moved.{has_all, has_more}
use Rattle.sync_engine.proofs.client.Client.put_touched.Goals as goal

pub loop-key-preserved : goal.loop-key-preserved
loop-key-preserved c = has_more (λ key id. IsConcerned c.args.self.now.listeners key id) c.as_slice-key-items.result.now c.loop-key.key-index c.key-item.result _ _ _ c.loop-key-test.true c.key-item.is c.loop-key.invariant c.concerned.ensures.kept
    (subst (λ (k : Kept). HasAllConcerned k.listeners c.key-item.result c.concerned.new.ids) c.self.view_is c.in_ok-concerned.ensures.each)

pub returns-clause-each : goal.returns-clause-each
returns-clause-each c = λ key there. (has_all (λ key id. IsConcerned c.args.self.now.listeners key id) c.as_slice-key-items.result.now c.loop-key.key-index _ _ (omega (arith, c.loop-key-test.false, c.loop-key.auto.key-index-end)) c.loop-key.invariant).each
    key (subst (λ (l : List Key). Contains l key) (sym c.as_slice-key-items.ensures) there)
