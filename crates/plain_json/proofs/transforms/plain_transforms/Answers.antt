use Rattle.std.proofs.Common.{rules, ◌<◌, ◌^◌, length, ap, ◌∙◌}
use Rattle.json.specs.Value.{value_view}
use Rattle.json.proofs.Trees.{view-Array}
use Rattle.plain_json.proofs.Transformed.{no_transforms, more_transforms, all_transforms}
use Rattle.plain_json.proofs.transforms.plain_transforms.Goals as goal

pub loop-item-init : goal.loop-item-init
loop-item-init c = no_transforms _ _ c.in_ok-transforms.ensures.items

pub loop-item-preserved : goal.loop-item-preserved
loop-item-preserved c =
    more_transforms _ _ c.loop-item.item-index c.item-item.result _ _ c.in-Some.transform c.loop-item-test.true c.item-item.is c.loop-item.invariant (rw c.in-Some.is at c.in_ok-transform.ensures) c.in_ok-push.ensures.items

pub returns : goal.returns
returns c =
    let few : length c.loop-item.transforms.items < 2 ^ 64 = search rules in
    rw c.from_vec.ensures (all_transforms _ _ _ _ c.loop-item.item-index _ (ap value_view c.in-Array.is ∙ view-Array c.in-Array.items) c.deref-item-items.ensures.value c.loop-item-test.false c.loop-item.auto.item-index-end c.loop-item.invariant few)
