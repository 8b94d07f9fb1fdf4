use Rattle.std.proofs.Common.{arith, subst}
use Rattle.listeners.specs.Concerns.{HasAllConcerned, IsConcerned}
use Rattle.sync_engine.specs.Standing.{Kept}
use Rattle.sync_engine.proofs.Moved.{has_all, has_more}
use Rattle.sync_engine.proofs.client.Client.put_concerned.Goals as goal

pub loop-entry-preserved : goal.loop-entry-preserved
loop-entry-preserved c = has_more (λ e id. IsConcerned c.args.self.now.listeners e.key id) c.args.entries.now c.loop-entry.entry-index c.entry-item.result _ _ _ c.loop-entry-test.true c.entry-item.is c.loop-entry.invariant c.concerned.ensures.kept
    (subst (λ (k : Kept). HasAllConcerned k.listeners c.entry-item.result.key c.concerned.new.ids) c.self.view_is c.in_ok-concerned.ensures.each)

pub returns-clause-each : goal.returns-clause-each
returns-clause-each c = (has_all (λ e id. IsConcerned c.args.self.now.listeners e.key id) c.args.entries.now c.loop-entry.entry-index _ _ (omega (arith, c.loop-entry-test.false, c.loop-entry.auto.entry-index-end)) c.loop-entry.invariant).each
