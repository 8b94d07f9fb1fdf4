use Rattle.std.proofs.Common.{sym, subst}
use Rattle.serde_json.specs.View.{items_view}
use Rattle.json_model.specs.declared.place.Series.TheVariants as series
use Rattle.json_model.specs.Clean.{ItemsAreClean}
use Rattle.json_model.proofs.Built.{item_clean}
use Rattle.json_model.proofs.Forms.{none_spelled, more_spelled}
use Rattle.json_rpc.specs.Grammar.{SpellsWrite}
use Rattle.json_rpc.specs.Storable.{IsStorableWrite}
use Rattle.json_rpc.proofs.write.clean_writes.Goals as goal

pub loop-item-init : goal.loop-item-init
loop-item-init c = none_spelled (SpellsWrite c.args.setting.now.root) IsStorableWrite _ c.in_ok-writes.ensures.items

pub clean_write-requires : goal.clean_write-requires
clean_write-requires c =
    let clean = subst (λ l. ItemsAreClean c.args.setting.now series.Writes (items_view l)) (sym c.deref-item-items.ensures.value) c.clean_list-items.ensures.clean in
    item_clean _ series.Writes _ c.loop-item.item-index c.item-item.result c.loop-item-test.true c.item-item.is clean

pub loop-item-preserved : goal.loop-item-preserved
loop-item-preserved c = more_spelled (SpellsWrite c.args.setting.now.root) IsStorableWrite _ c.loop-item.item-index c.item-item.result _ _ _ c.loop-item-test.true c.item-item.is c.loop-item.invariant c.in_ok-clean_write.ensures.write c.in_ok-clean_write.ensures.storable c.in_ok-push.ensures.items
