use Rattle.std.proofs.Common.{ap, ◌∙◌}
use Rattle.json.specs.Value.{value_view}
use Rattle.json.proofs.Trees.{view-Array}
use Rattle.plain_json.proofs.Lists.{none_each, more_each, all_each}
use Rattle.plain_json.proofs.masks.plain_paths.Goals as goal

pub loop-item-init : goal.loop-item-init
loop-item-init c = none_each _ _ _ c.in_ok-paths.ensures.items

pub loop-item-preserved : goal.loop-item-preserved
loop-item-preserved c =
    more_each _ _ _ c.loop-item.item-index c.item-item.result _ _ c.in-Some.path c.loop-item-test.true c.item-item.is c.loop-item.invariant (rw c.in-Some.is at c.in_ok-path.ensures.path) (rw c.in-Some.is at c.in_ok-path.ensures.storable) c.in_ok-push.ensures.items

pub returns-clause-paths : goal.returns-clause-paths
returns-clause-paths c =
    all_each _ _ _ _ _ c.loop-item.item-index _ (ap value_view c.in-Array.is ∙ view-Array c.in-Array.items) c.deref-item-items.ensures.value c.loop-item-test.false c.loop-item.auto.item-index-end c.loop-item.invariant
