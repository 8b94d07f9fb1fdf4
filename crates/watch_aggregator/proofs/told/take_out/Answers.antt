use Rattle.watch_aggregator.specs.Told.{take_out}
use Rattle.watch_aggregator.proofs.Documents.{out_keeps, out_twice}
use Rattle.watch_aggregator.proofs.Mapped.{for_more, for_none}
use Rattle.watch_aggregator.proofs.told.take_out.Goals as goal

pub loop-id-init : goal.loop-id-init
loop-id-init c = λ ascending. for_none (take_out c.args.key.now) (out_keeps c.args.key.now) c.args.watched.now.items

pub loop-id-preserved : goal.loop-id-preserved
loop-id-preserved c = λ ascending.
    for_more (take_out c.args.key.now) (out_keeps c.args.key.now) (out_twice c.args.key.now) c.args.watched.now.items c.loop-id.watched.items c.take_out_at.new.watched.items c.args.ids.now c.loop-id.id-index c.loop-id-test.true ascending (c.loop-id.invariant ascending) c.take_out_at.ensures
