use Rattle.watch_aggregator.specs.Told.{take_back}
use Rattle.watch_aggregator.proofs.Documents.{back_keeps, back_twice}
use Rattle.watch_aggregator.proofs.Mapped.{for_more, for_none}
use Rattle.watch_aggregator.proofs.told.take_back.Goals as goal

pub loop-id-init : goal.loop-id-init
loop-id-init c = λ ascending. for_none (take_back c.args.key.now) (back_keeps c.args.key.now) c.args.watched.now.items

pub loop-id-preserved : goal.loop-id-preserved
loop-id-preserved c = λ ascending.
    for_more (take_back c.args.key.now) (back_keeps c.args.key.now) (back_twice c.args.key.now) c.args.watched.now.items c.loop-id.watched.items c.take_back_at.new.watched.items c.args.ids.now c.loop-id.id-index c.loop-id-test.true ascending (c.loop-id.invariant ascending) c.take_back_at.ensures
