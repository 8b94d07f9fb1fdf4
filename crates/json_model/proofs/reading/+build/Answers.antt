use Rattle.std.proofs.Common.{rules, ◌≡◌, ◌++◌, ◌∷◌, [], map, ap, sym, subst, ◌∙◌}
use Rattle.std.specs.Map.Iter.{deref_pair}
use Rattle.std.specs.Str.{IsUtf8}
use Rattle.std.proofs.lemmas.List.{map-append}
use Rattle.std.proofs.lemmas.List.Elements.{All-nil}
use Rattle.std.proofs.lemmas.Map.Iter.{rest_so_far, rest_more, iter_end}
use Rattle.std.proofs.lemmas.Result.{IfOk-weaker}
use Rattle.document_keys.specs.Paths.{IsFieldName}
use Rattle.serde_json.specs.Data.{members_depth}
use Rattle.serde_json.specs.View.{view, items_view, members_view}
use Rattle.json_model.specs.declared.place.Series.TheVariants as series
use Rattle.json_model.specs.Clean.{ItemsAreClean}
use Rattle.json_model.specs.Grammar.{SpellsKind, SpellsItems, SpellsMembers, as_scalar, no_member}
use Rattle.json_model.proofs.Built.{kind_known, no_other_kind, whole_list, one_more, item_clean, field_clean, member_skip, member_more, a_value, a_full_list}
use Rattle.json_model.proofs.Deep.{clean_deep, value_within, values_within}
use Rattle.json_model.proofs.Lone.{lone_is_scalar, lone_clean, lone_value}
use Rattle.json_model.proofs.Stored.{keys_put, members_put}
use Rattle.json_model.proofs.Trees.{null_test, item_depth, entry_depth}
use Rattle.json_model.proofs.reading.+build.Goals as goal

pub build_kind-unreachable-requires : goal.build_kind-unreachable-requires
build_kind-unreachable-requires t c = no_other_kind _ _ _ c.requires.kind c.requires.clean c.in_default.not-Object c.in_default.not-Leaf

pub build_kind-returns-in-Leaf-clause-found : goal.build_kind-returns-in-Leaf-clause-found
build_kind-returns-in-Leaf-clause-found t c = rw c.in-Leaf.is (IfOk-weaker c.build_scalar.result _ _ (λ v s. as_scalar s) c.build_scalar.ensures.found)

pub clean_fields-loop-key-init : goal.clean_fields-loop-key-init
clean_fields-loop-key-init t c = (tt, tt, rw c.in_ok-fields.ensures no_member, rw c.in_ok-fields.ensures (All-nil IsUtf8), rw c.in_ok-fields.ensures tt)

pub clean_fields-loop-key-preserved-then-is_null : goal.clean_fields-loop-key-preserved-then-is_null
clean_fields-loop-key-preserved-then-is_null t c = (
  tt,
  tt,
  rw (map-append deref_pair c.loop-key.yielded ((c.in-Some.key, c.in-Some.member) ∷ []))
      (member_skip (map deref_pair c.loop-key.yielded) (c.in-Some.key.now, c.in-Some.member.now) _ _ (null_test _ ∙ sym c.if-is_null.ensures) c.loop-key.invariant.2),
  c.loop-key.invariant.3,
  c.loop-key.invariant.4,
)

pub clean_fields-clean_value-requires : goal.clean_fields-clean_value-requires
clean_fields-clean_value-requires t c =
    let so_far = rest_so_far deref_pair c.loop-key.yielded c.into_iter-key-iterator.result c.loop-key.key-iterator c.loop-key.yielded_by in
    let next = rest_more deref_pair c.loop-key.key-iterator c.next.new.self c.next.result (c.in-Some.key, c.in-Some.member) c.in-Some.is c.next.ensures.steps in
    let all = sym c.into_iter-key-iterator.ensures.into_iter_gives.0 ∙ so_far ∙ ap (λ l. map deref_pair c.loop-key.yielded ++ l) next in
    let here = field_clean c.args.setting.now (map deref_pair c.loop-key.yielded) c.next.new.self _ (c.in-Some.key.now, c.in-Some.member.now) all c.clean_object-members.ensures.clean (null_test _ ∙ sym c.if-is_null.ensures) in
    let within = entry_depth (map deref_pair c.loop-key.yielded) c.next.new.self (c.in-Some.key.now, c.in-Some.member.now) in
    let same : members_depth (members_view c.clean_object-members.result.now.entries) ≡ members_depth (members_view (map deref_pair c.loop-key.yielded ++ (c.in-Some.key.now, c.in-Some.member.now) ∷ c.next.new.self)) = ap (λ l. members_depth (members_view l)) all in
    let whole = c.clean_object-members.ensures.depth in
    (search rules, here.1)

pub clean_fields-put-requires : goal.clean_fields-put-requires
clean_fields-put-requires t c =
    let so_far = rest_so_far deref_pair c.loop-key.yielded c.into_iter-key-iterator.result c.loop-key.key-iterator c.loop-key.yielded_by in
    let next = rest_more deref_pair c.loop-key.key-iterator c.next.new.self c.next.result (c.in-Some.key, c.in-Some.member) c.in-Some.is c.next.ensures.steps in
    let all = sym c.into_iter-key-iterator.ensures.into_iter_gives.0 ∙ so_far ∙ ap (λ l. map deref_pair c.loop-key.yielded ++ l) next in
    let here = field_clean c.args.setting.now (map deref_pair c.loop-key.yielded) c.next.new.self _ (c.in-Some.key.now, c.in-Some.member.now) all c.clean_object-members.ensures.clean (null_test _ ∙ sym c.if-is_null.ensures) in
    subst IsFieldName (sym (c.in_ok-name.ensures ∙ c.as_str-name.ensures.value)) here.0

pub clean_fields-loop-key-preserved : goal.clean_fields-loop-key-preserved
clean_fields-loop-key-preserved t c = (
  tt,
  tt,
  rw (map-append deref_pair c.loop-key.yielded ((c.in-Some.key, c.in-Some.member) ∷ []))
      (member_more (map deref_pair c.loop-key.yielded) c.in-Some.key.now c.in-Some.member.now c.as_str-name.result.now c.in_ok-name.name _ _ _ c.in_ok-value.value c.as_str-name.ensures.value c.in_ok-name.ensures (null_test _ ∙ sym c.if-is_null.ensures)
      c.in_ok-value.ensures.value c.loop-key.invariant.2 c.in_ok-put.ensures.done),
  rw (c.in_ok-put.ensures.done, c.in_ok-name.ensures) (keys_put _ _ c.in_ok-value.value c.loop-key.invariant.3 c.show_text.ensures.utf8),
  rw (c.in_ok-put.ensures.done, c.in_ok-name.ensures) (members_put _ _ _ c.loop-key.invariant.4 c.in_ok-value.ensures.storable),
)

pub clean_value-build_scalar-requires : goal.clean_value-build_scalar-requires
clean_value-build_scalar-requires t c = record {
  scalar = lone_is_scalar _ _ _ _ _ c.in-Some.ensures;
  clean = lone_clean _ _ _ _ _ _ c.clean_object-members.ensures.clean c.in-Some.ensures;
}

pub clean_value-returns-in-Some-clause-value : goal.clean_value-returns-in-Some-clause-value
clean_value-returns-in-Some-clause-value t c = IfOk-weaker c.build_scalar.result _ _ (λ v spells. lone_value _ v _ _ _ _ _ c.clean_object-members.ensures.is c.in-Some.ensures spells) c.build_scalar.ensures.found

pub clean_value-returns-in-Some-clause-deep : goal.clean_value-returns-in-Some-clause-deep
clean_value-returns-in-Some-clause-deep t c =
    IfOk-weaker c.build_scalar.result _ _ (λ v spells. value_within _ _ v c.requires (lone_value _ v _ _ _ _ _ c.clean_object-members.ensures.is c.in-Some.ensures spells)) c.build_scalar.ensures.found

pub clean_value-build_kind-requires : goal.clean_value-build_kind-requires
clean_value-build_kind-requires t c =
    let whole = c.clean_object-members.ensures.depth in
    let inside = c.clean_choice.ensures.depth in
    (search rules, (rw c.value_member.ensures (kind_known _ c.clean_choice.ensures.known), rw c.value_member.ensures c.clean_choice.ensures.clean))

pub clean_value-returns-clause-value : goal.clean_value-returns-clause-value
clean_value-returns-clause-value t c =
    IfOk-weaker c.build_kind.result _ _ (λ v spells. a_value _ _ _ _ v c.clean_object-members.ensures.is c.clean_choice.ensures.only (subst (λ p. SpellsKind p (view c.clean_choice.result.1.now) v) c.value_member.ensures spells)) c.build_kind.ensures.found

pub clean_value-returns-clause-deep : goal.clean_value-returns-clause-deep
clean_value-returns-clause-deep t c =
    IfOk-weaker c.build_kind.result _ _
    (λ v spells. value_within _ _ v c.requires (a_value _ _ _ _ v c.clean_object-members.ensures.is c.clean_choice.ensures.only (subst (λ p. SpellsKind p (view c.clean_choice.result.1.now) v) c.value_member.ensures spells))) c.build_kind.ensures.found

pub clean_values-clean_value-requires : goal.clean_values-clean_value-requires
clean_values-clean_value-requires t c =
    let whole = c.clean_list-items.ensures.depth in
    let within = item_depth _ c.loop-item.item-index c.item-item.result c.loop-item-test.true c.item-item.is in
    let clean = subst (λ l. ItemsAreClean c.args.setting.now series.Values (items_view l)) (sym c.deref-item-items.ensures.value) c.clean_list-items.ensures.clean in
    (search rules, item_clean _ series.Values _ c.loop-item.item-index c.item-item.result c.loop-item-test.true c.item-item.is clean)

pub clean_values-loop-item-preserved : goal.clean_values-loop-item-preserved
clean_values-loop-item-preserved t c = one_more _ c.loop-item.item-index c.item-item.result _ _ _ c.loop-item-test.true c.item-item.is c.loop-item.invariant c.in_ok-value.ensures.value c.in_ok-value.ensures.storable c.in_ok-push.ensures.items

pub clean_values-returns-clause-values : goal.clean_values-returns-clause-values
clean_values-returns-clause-values t c =
    let all = whole_list _ c.loop-item.item-index c.loop-item-test.false c.loop-item.auto.item-index-end ∙ c.deref-item-items.ensures.value in
    a_full_list _ _ _ c.clean_list-items.ensures.is (subst (λ l. SpellsItems (items_view l) c.loop-item.values.items) all c.loop-item.invariant.spelled)

pub clean_values-returns-clause-deep : goal.clean_values-returns-clause-deep
clean_values-returns-clause-deep t c =
    let all = whole_list _ c.loop-item.item-index c.loop-item-test.false c.loop-item.auto.item-index-end ∙ c.deref-item-items.ensures.value in
    values_within _ _ _ c.requires (a_full_list _ _ _ c.clean_list-items.ensures.is (subst (λ l. SpellsItems (items_view l) c.loop-item.values.items) all c.loop-item.invariant.spelled))

pub clean_fields-returns-clause-deep : goal.clean_fields-returns-clause-deep
clean_fields-returns-clause-deep t c =
    let all : map deref_pair c.loop-key.yielded ≡ c.clean_object-members.result.now.entries = search (rules, iter_end) in
    clean_deep _ _ _ c.clean_object-members.ensures.clean (subst (λ l. SpellsMembers (members_view l) [] c.loop-key.fields) all c.loop-key.invariant.2)
