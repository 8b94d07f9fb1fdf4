use Rattle.std.proofs.Common.{rules, refl, sym, subst}
use Rattle.std.proofs.lemmas.Result.{IfOk-weaker}
use Rattle.serde_json.specs.View.{view, items_view, members_view}
use Rattle.json_model.specs.declared.place.Series.TheVariants as series
use Rattle.json_model.specs.Clean.{ItemsAreClean}
use Rattle.json_model.proofs.Built.{item_clean}
use Rattle.json_model.proofs.Forms.{none_spelled, more_spelled, all_spelled}
use Rattle.json_model.proofs.Trees.{object_at, item_depth}
use Rattle.json_queries.specs.Grammar.{SpellsFilter, of_kind, SpellsFilterUnder, as_composite}
use Rattle.json_queries.specs.Storable.{HasCountedParts}
use Rattle.json_queries.proofs.Read.{left_out_filters, composite_clean, filters_clean, all_filters}
use Rattle.json_queries.proofs.Stored.{all_parts, no_parts, counted}
use Rattle.json_queries.proofs.filter.+build.Goals as goal

pub clean_composite_filter-clean_filters_in-requires : goal.clean_composite_filter-clean_filters_in-requires
clean_composite_filter-clean_filters_in-requires t c = let whole = c.clean_object-members.ensures.depth in (search rules, c.clean_object-members.ensures.clean)

pub clean_composite_filter-returns-clause-filter : goal.clean_composite_filter-returns-clause-filter
clean_composite_filter-returns-clause-filter t c = as_composite _ _ refl (object_at _ _ (sym c.clean_object-members.ensures.is)) c.clean_junction_in-op.ensures c.in_ok-filters.ensures.filters

pub clean_filter-clean_composite_filter-requires : goal.clean_filter-clean_composite_filter-requires
clean_filter-clean_composite_filter-requires t c =
    let whole = c.clean_object-members.ensures.depth in
    let inside = c.clean_choice.ensures.depth in
    (search rules, composite_clean _ _ _ c.in-compositeFilter.is c.clean_choice.ensures.clean)

pub clean_filter-returns-in-compositeFilter-clause-filter : goal.clean_filter-returns-in-compositeFilter-clause-filter
clean_filter-returns-in-compositeFilter-clause-filter t c =
    IfOk-weaker c.clean_composite_filter.result _ _ (λ f spells. of_kind _ _ _ (object_at _ _ (sym c.clean_object-members.ensures.is)) c.clean_choice.ensures.only (subst (λ n. SpellsFilterUnder n (view c.clean_choice.result.1.now) f) (sym c.in-compositeFilter.is) spells)) c.clean_composite_filter.ensures.filter

pub clean_filter-returns-in-fieldFilter-clause-filter : goal.clean_filter-returns-in-fieldFilter-clause-filter
clean_filter-returns-in-fieldFilter-clause-filter t c =
    IfOk-weaker c.clean_field_filter.result _ _ (λ f spells. of_kind _ _ _ (object_at _ _ (sym c.clean_object-members.ensures.is)) c.clean_choice.ensures.only (subst (λ n. SpellsFilterUnder n (view c.clean_choice.result.1.now) f) (sym c.in-fieldFilter.is) spells)) c.clean_field_filter.ensures.filter

pub clean_filter-returns-in-unaryFilter-clause-filter : goal.clean_filter-returns-in-unaryFilter-clause-filter
clean_filter-returns-in-unaryFilter-clause-filter t c =
    IfOk-weaker c.clean_unary_filter.result _ _ (λ f spells. of_kind _ _ _ (object_at _ _ (sym c.clean_object-members.ensures.is)) c.clean_choice.ensures.only (subst (λ n. SpellsFilterUnder n (view c.clean_choice.result.1.now) f) (sym c.in-unaryFilter.is) spells)) c.clean_unary_filter.ensures.filter

pub clean_filters_in-clean_items-requires : goal.clean_filters_in-clean_items-requires
clean_filters_in-clean_items-requires t c = let inside = c.in-Some.ensures.depth in (search rules, filters_clean _ _ c.in-Some.ensures.clean)

pub clean_filters_in-returns-in-None-clause-filters : goal.clean_filters_in-returns-in-None-clause-filters
clean_filters_in-returns-in-None-clause-filters t c = left_out_filters (members_view c.args.members.now.entries) _ c.in-None.ensures.is c.new.ensures.items

pub clean_items-loop-item-init : goal.clean_items-loop-item-init
clean_items-loop-item-init t c = none_spelled SpellsFilter HasCountedParts _ c.new-filters.ensures.items

pub clean_items-clean_filter-requires : goal.clean_items-clean_filter-requires
clean_items-clean_filter-requires t c =
    let whole = c.clean_list-items.ensures.depth in
    let within = item_depth _ c.loop-item.item-index c.item-item.result c.loop-item-test.true c.item-item.is in
    let clean = subst (λ l. ItemsAreClean c.args.setting.now series.Filters (items_view l)) (sym c.deref-item-items.ensures.value) c.clean_list-items.ensures.clean in
    (search rules, item_clean _ series.Filters _ c.loop-item.item-index c.item-item.result c.loop-item-test.true c.item-item.is clean)

pub clean_items-loop-item-preserved : goal.clean_items-loop-item-preserved
clean_items-loop-item-preserved t c = more_spelled SpellsFilter HasCountedParts _ c.loop-item.item-index c.item-item.result _ _ _ c.loop-item-test.true c.item-item.is c.loop-item.invariant c.in_ok-clean_filter.ensures.filter c.in_ok-clean_filter.ensures.storable c.in_ok-push.ensures.items

pub clean_items-returns-clause-filters : goal.clean_items-returns-clause-filters
clean_items-returns-clause-filters t c = all_filters _ _ (all_spelled SpellsFilter HasCountedParts _ c.clean_list-items.result.now.items _ c.loop-item.item-index _ c.clean_list-items.ensures.is c.deref-item-items.ensures.value c.loop-item-test.false c.loop-item.auto.item-index-end c.loop-item.invariant)

pub clean_items-returns-clause-storable : goal.clean_items-returns-clause-storable
clean_items-returns-clause-storable t c = all_parts _ c.loop-item.invariant.fit

pub clean_filters_in-returns-in-None-clause-storable : goal.clean_filters_in-returns-in-None-clause-storable
clean_filters_in-returns-in-None-clause-storable t c = no_parts _ c.new.ensures.items

pub clean_composite_filter-returns-clause-storable : goal.clean_composite_filter-returns-clause-storable
clean_composite_filter-returns-clause-storable t c = (counted _ (search rules), c.in_ok-filters.ensures.storable)
