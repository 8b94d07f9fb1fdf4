use Rattle.std.proofs.Common.{rules, sym, subst}
use Rattle.serde_json.specs.View.{items_view}
use Rattle.json_model.specs.declared.place.Series.TheVariants as series
use Rattle.json_model.specs.Clean.{ItemsAreClean}
use Rattle.json_model.proofs.Built.{item_clean}
use Rattle.json_model.proofs.Forms.{none_spelled, more_spelled, all_spelled}
use Rattle.json_queries.specs.Grammar.{SpellsOrder}
use Rattle.json_queries.proofs.Stored.{HasQueryPath}
use Rattle.json_queries.proofs.order.clean_items.Goals as goal

pub loop-item-init : goal.loop-item-init
loop-item-init c = none_spelled SpellsOrder HasQueryPath _ c.new-orders.ensures.items

pub clean_order-requires : goal.clean_order-requires
clean_order-requires c =
    let clean = subst (λ l. ItemsAreClean c.args.setting.now series.Orders (items_view l)) (sym c.deref-item-items.ensures.value) c.clean_list-items.ensures.clean in
    item_clean _ series.Orders _ c.loop-item.item-index c.item-item.result c.loop-item-test.true c.item-item.is clean

pub loop-item-preserved : goal.loop-item-preserved
loop-item-preserved c = more_spelled SpellsOrder HasQueryPath _ c.loop-item.item-index c.item-item.result _ _ _ c.loop-item-test.true c.item-item.is c.loop-item.invariant c.in_ok-clean_order.ensures.order c.in_ok-clean_order.ensures.storable c.in_ok-push.ensures.items

pub returns-clause-orders : goal.returns-clause-orders
returns-clause-orders c = all_spelled SpellsOrder HasQueryPath _ c.clean_list-items.result.now.items _ c.loop-item.item-index _ c.clean_list-items.ensures.is c.deref-item-items.ensures.value c.loop-item-test.false c.loop-item.auto.item-index-end c.loop-item.invariant

pub returns-clause-storable : goal.returns-clause-storable
returns-clause-storable c = record { count = search rules; each = c.loop-item.invariant.fit }
