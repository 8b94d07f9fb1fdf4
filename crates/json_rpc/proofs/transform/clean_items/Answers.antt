use Rattle.std.proofs.Common.{sym, subst}
use Rattle.serde_json.specs.View.{items_view}
use Rattle.json_model.specs.declared.place.Series.TheVariants as series
use Rattle.json_model.specs.Clean.{ItemsAreClean}
use Rattle.json_model.proofs.Built.{item_clean}
use Rattle.json_model.proofs.Forms.{none_spelled, more_spelled}
use Rattle.json_rpc.specs.Grammar.{SpellsTransform}
use Rattle.json_rpc.specs.Storable.{IsStorableTransform}
use Rattle.json_rpc.proofs.transform.clean_items.Goals as goal

pub loop-item-init : goal.loop-item-init
loop-item-init c = none_spelled SpellsTransform IsStorableTransform _ c.in_ok-transforms.ensures.items

pub clean_transform-requires : goal.clean_transform-requires
clean_transform-requires c =
    let clean = subst (λ l. ItemsAreClean c.args.setting.now series.Transforms (items_view l)) (sym c.deref-item-items.ensures.value) c.clean_list-items.ensures.clean in
    item_clean _ series.Transforms _ c.loop-item.item-index c.item-item.result c.loop-item-test.true c.item-item.is clean

pub loop-item-preserved : goal.loop-item-preserved
loop-item-preserved c = more_spelled SpellsTransform IsStorableTransform _ c.loop-item.item-index c.item-item.result _ _ _ c.loop-item-test.true c.item-item.is c.loop-item.invariant c.in_ok-clean_transform.ensures.transform c.in_ok-clean_transform.ensures.storable c.in_ok-push.ensures.items
