use Rattle.sync_engine.proofs.Blanked.{beside_more}
use Rattle.sync_engine.proofs.resetting.put_all.Goals as goal

pub loop-id-preserved : goal.loop-id-preserved
loop-id-preserved c = record { put = beside_more c.args.set.now c.loop-id.set c.insert.new.self c.args.ids.now c.loop-id.id-index c.loop-id-test.true c.loop-id.invariant.put c.in_ok-insert.ensures.updates.0 }
