use Rattle.watch_aggregator.specs.Told.{settle}
use Rattle.watch_aggregator.proofs.Documents.{settle_keeps, settle_twice}
use Rattle.watch_aggregator.proofs.Mapped.{for_more, for_none}
use Rattle.watch_aggregator.proofs.told.settle.Goals as goal

pub loop-id-init : goal.loop-id-init
loop-id-init c = λ ascending. for_none (settle) (settle_keeps) c.args.watched.now.items

pub loop-id-preserved : goal.loop-id-preserved
loop-id-preserved c = λ ascending.
    for_more (settle) (settle_keeps) (settle_twice) c.args.watched.now.items c.loop-id.watched.items c.settle_at.new.watched.items c.args.ids.now c.loop-id.id-index c.loop-id-test.true ascending (c.loop-id.invariant ascending) c.settle_at.ensures
