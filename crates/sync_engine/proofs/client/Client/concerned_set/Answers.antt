use Rattle.std.proofs.Common.{arith, subst}
use Rattle.listeners.specs.Concerns.{HasAllConcerned}
use Rattle.sync_engine.specs.Standing.{Kept}
use Rattle.sync_engine.proofs.Gathering.{all_concerned, none_concerned, one_concerned}
use Rattle.sync_engine.proofs.client.Client.concerned_set.Goals as goal

pub loop-write-init : goal.loop-write-init
loop-write-init c = none_concerned _ _

pub loop-write-preserved : goal.loop-write-preserved
loop-write-preserved c = one_concerned _ _ _ c.write-item.result _ _ _ c.loop-write-test.true c.write-item.is c.key.ensures c.loop-write.invariant c.concerned.ensures.kept
    (subst (λ (k : Kept). HasAllConcerned k.listeners c.key.result.now c.concerned.new.ids) c.self.view_is c.in_ok-concerned.ensures.each)

pub returns : goal.returns
returns c = all_concerned _ _ _ _ (omega (arith, c.loop-write-test.false, c.loop-write.auto.write-index-end)) c.loop-write.invariant
