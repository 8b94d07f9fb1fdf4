use Rattle.std.proofs.Common.{ap, ◌∙◌}
use Rattle.json.specs.Value.{value_view}
use Rattle.json.proofs.Trees.{view-Array}
use Rattle.plain_json.proofs.Updates.{no_writes, more_writes, all_writes}
use Rattle.plain_json.proofs.writes.plain_writes.Goals as goal

pub loop-item-init : goal.loop-item-init
loop-item-init c = no_writes _ _ c.in_ok-writes.ensures.items

pub loop-item-preserved : goal.loop-item-preserved
loop-item-preserved c =
    more_writes _ _ c.loop-item.item-index c.item-item.result _ _ c.in-Some.write c.loop-item-test.true c.item-item.is c.loop-item.invariant (rw c.in-Some.is at c.in_ok-write.ensures) c.in_ok-push.ensures.items

pub returns : goal.returns
returns c =
    all_writes _ _ _ _ c.loop-item.item-index _ (ap value_view c.in-Array.is ∙ view-Array c.in-Array.items) c.deref-item-items.ensures.value c.loop-item-test.false c.loop-item.auto.item-index-end c.loop-item.invariant
