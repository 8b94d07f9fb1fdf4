use Rattle.std.proofs.Common.{sym, subst}
use Rattle.serde_json.specs.View.{items_view}
use Rattle.value_model.specs.Storable.{IsStorableSegment}
use Rattle.json_model.specs.declared.place.Series.TheVariants as series
use Rattle.json_model.specs.Clean.{ItemsAreClean}
use Rattle.json_model.proofs.Built.{item_clean}
use Rattle.json_model.proofs.Forms.{none_spelled, more_spelled, all_spelled}
use Rattle.json_queries.specs.Grammar.{SpellsSelector}
use Rattle.json_queries.proofs.query.clean_items.Goals as goal

pub loop-item-init : goal.loop-item-init
loop-item-init c = none_spelled SpellsSelector IsStorableSegment _ c.new-ids.ensures.items

pub clean_selector-requires : goal.clean_selector-requires
clean_selector-requires c =
    let clean = subst (λ l. ItemsAreClean c.args.setting.now series.Selectors (items_view l)) (sym c.deref-item-items.ensures.value) c.clean_list-items.ensures.clean in
    item_clean _ series.Selectors _ c.loop-item.item-index c.item-item.result c.loop-item-test.true c.item-item.is clean

pub loop-item-preserved : goal.loop-item-preserved
loop-item-preserved c = more_spelled SpellsSelector IsStorableSegment _ c.loop-item.item-index c.item-item.result _ _ _ c.loop-item-test.true c.item-item.is c.loop-item.invariant c.in_ok-clean_selector.ensures.id c.in_ok-clean_selector.ensures.storable c.in_ok-push.ensures.items

pub returns-clause-ids : goal.returns-clause-ids
returns-clause-ids c = all_spelled SpellsSelector IsStorableSegment _ c.clean_list-items.result.now.items _ c.loop-item.item-index _ c.clean_list-items.ensures.is c.deref-item-items.ensures.value c.loop-item-test.false c.loop-item.auto.item-index-end c.loop-item.invariant
