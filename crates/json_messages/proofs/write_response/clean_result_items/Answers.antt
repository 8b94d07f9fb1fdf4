use Rattle.std.proofs.Common.{sym, subst}
use Rattle.serde_json.specs.View.{items_view}
use Rattle.json_model.specs.declared.place.Series.TheVariants as series
use Rattle.json_model.specs.Clean.{ItemsAreClean}
use Rattle.json_model.proofs.Built.{item_clean}
use Rattle.json_model.proofs.Forms.{none_spelled, more_spelled, all_spelled}
use Rattle.json_messages.specs.Grammar.{SpellsWriteResult}
use Rattle.json_messages.specs.Storable.{IsStorableResult}
use Rattle.json_messages.proofs.write_response.clean_result_items.Goals as goal

pub loop-item-init : goal.loop-item-init
loop-item-init c = none_spelled SpellsWriteResult IsStorableResult _ c.new-results.ensures.items

pub clean_result-requires : goal.clean_result-requires
clean_result-requires c =
    let clean = subst (λ l. ItemsAreClean c.args.setting.now series.Results (items_view l)) (sym c.deref-item-items.ensures.value) c.clean_list-items.ensures.clean in
    item_clean _ series.Results _ c.loop-item.item-index c.item-item.result c.loop-item-test.true c.item-item.is clean

pub loop-item-preserved : goal.loop-item-preserved
loop-item-preserved c = more_spelled SpellsWriteResult IsStorableResult _ c.loop-item.item-index c.item-item.result _ _ _ c.loop-item-test.true c.item-item.is c.loop-item.invariant c.in_ok-clean_result.ensures.answer c.in_ok-clean_result.ensures.storable c.in_ok-push.ensures.items

pub returns-clause-results : goal.returns-clause-results
returns-clause-results c = all_spelled SpellsWriteResult IsStorableResult _ c.clean_list-items.result.now.items _ c.loop-item.item-index _ c.clean_list-items.ensures.is c.deref-item-items.ensures.value c.loop-item-test.false c.loop-item.auto.item-index-end c.loop-item.invariant
