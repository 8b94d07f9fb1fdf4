use Rattle.std.proofs.Common.{w32, sym, subst}
use Rattle.std.proofs.lemmas.Int.{to_z-of_z}
use Rattle.serde_json.specs.View.{view, items_view}
use Rattle.json_model.specs.declared.place.Series.TheVariants as series
use Rattle.json_model.specs.Clean.{ItemsAreClean}
use Rattle.json_model.specs.Numbers.{SpellsShort}
use Rattle.json_model.proofs.Built.{item_clean}
use Rattle.json_model.proofs.Forms.{none_spelled, more_spelled, all_spelled}
use Rattle.json_messages.proofs.Free.{Free}
use Rattle.json_messages.proofs.parts.clean_id_items.Goals as goal

pub loop-item-init : goal.loop-item-init
loop-item-init c = none_spelled SpellsShort Free _ c.new-ids.ensures.items

pub clean_target_id-requires : goal.clean_target_id-requires
clean_target_id-requires c =
    let clean = subst (λ l. ItemsAreClean c.args.setting.now series.TargetIds (items_view l)) (sym c.deref-item-items.ensures.value) c.clean_list-items.ensures.clean in
    item_clean _ series.TargetIds _ c.loop-item.item-index c.item-item.result c.loop-item-test.true c.item-item.is clean

pub loop-item-preserved : goal.loop-item-preserved
loop-item-preserved c =
    let same = to_z-of_z w32 c.clean_target_id.result c.clean_target_id.ensures.fits in
    more_spelled SpellsShort Free _ c.loop-item.item-index c.item-item.result _ _ _ c.loop-item-test.true c.item-item.is c.loop-item.invariant (subst (SpellsShort (view c.item-item.result)) (sym same) c.clean_target_id.ensures) tt c.in_ok-push.ensures.items

pub returns : goal.returns
returns c = all_spelled SpellsShort Free _ c.clean_list-items.result.now.items _ c.loop-item.item-index _ c.clean_list-items.ensures.is c.deref-item-items.ensures.value c.loop-item-test.false c.loop-item.auto.item-index-end c.loop-item.invariant
