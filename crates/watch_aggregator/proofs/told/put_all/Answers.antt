use Rattle.std.proofs.Common.{◌∙◌, take}
use Rattle.watch_aggregator.specs.Told.{put}
use Rattle.watch_aggregator.proofs.Documents.{put_keeps, put_twice}
use Rattle.watch_aggregator.proofs.Mapped.{for_more, for_none}
use Rattle.watch_aggregator.proofs.told.put_all.Goals as goal

pub loop-id-init : goal.loop-id-init
loop-id-init c = λ ascending. for_none (put c.args.change.now) (put_keeps c.args.change.now) c.args.watched.now.items

pub loop-id-preserved : goal.loop-id-preserved
loop-id-preserved c = λ ascending.
    let change = c.args.change.now in
    let ids = c.as_slice-id-items.result.now in
    for_more (put change) (put_keeps change) (put_twice change) c.args.watched.now.items c.loop-id.watched.items c.put_at.new.watched.items ids c.loop-id.id-index c.loop-id-test.true ascending (c.loop-id.invariant ascending) c.in-Ok.ensures.done

pub returns-in-Err-clause-undone : goal.returns-in-Err-clause-undone
returns-in-Err-clause-undone c = λ ascending. (take c.loop-id.id-index c.as_slice-id-items.result.now, c.in-Err.ensures.undone ∙ c.loop-id.invariant ascending)
