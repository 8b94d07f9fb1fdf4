use Rattle.std.proofs.Common.{rules, ap, ◌∙◌}
use Rattle.std.specs.Str.{IsUtf8}
use Rattle.std.proofs.lemmas.List.Elements.{All-nil}
use Rattle.json.specs.Value.{value_view}
use Rattle.json.proofs.Trees.{view-Array, view-Object}
use Rattle.value_model.specs.Storable.{AreStorable}
use Rattle.json_model.proofs.Stored.{keys_put, members_put}
use Rattle.plain_json.proofs.Fields as fields
use Rattle.plain_json.proofs.Lists as list
use Rattle.plain_json.proofs.values.+plain.Goals as goal

pub plain_values-loop-item-init : goal.plain_values-loop-item-init
plain_values-loop-item-init t c = list.no_values _ _ _ c.in_ok-values.ensures.items

pub plain_values-plain_value-requires : goal.plain_values-plain_value-requires
plain_values-plain_value-requires t c =
    let falls = list.within _ _ _ c.loop-item.item-index c.item-item.result (ap value_view c.in-Array.is ∙ view-Array c.in-Array.items) c.deref-item-items.ensures.value c.loop-item-test.true c.item-item.is in
    search rules

pub plain_values-loop-item-preserved : goal.plain_values-loop-item-preserved
plain_values-loop-item-preserved t c =
    list.more_values _ _ _ c.loop-item.item-index c.item-item.result _ _ c.in-Some.value c.loop-item-test.true c.item-item.is c.loop-item.invariant (rw c.in-Some.is at c.in_ok-value.ensures) c.in_ok-push.ensures.items

pub plain_values-returns : goal.plain_values-returns
plain_values-returns t c =
    list.all_values _ _ _ _ _ c.loop-item.item-index _ (ap value_view c.in-Array.is ∙ view-Array c.in-Array.items) c.deref-item-items.ensures.value c.loop-item-test.false c.loop-item.auto.item-index-end c.loop-item.invariant

pub plain_fields-loop-member-init : goal.plain_fields-loop-member-init
plain_fields-loop-member-init t c = (fields.no_fields _ _ _ c.in_ok-fields.ensures, rw c.in_ok-fields.ensures (All-nil IsUtf8), rw c.in_ok-fields.ensures tt)

pub plain_fields-plain_value-requires : goal.plain_fields-plain_value-requires
plain_fields-plain_value-requires t c =
    let falls = fields.within _ _ _ c.loop-member.member-index c.member-item.result (ap value_view c.in-Object.is ∙ view-Object c.in-Object.members) c.deref-member-items.ensures.value c.loop-member-test.true c.member-item.is in
    search rules

pub plain_fields-loop-member-preserved : goal.plain_fields-loop-member-preserved
plain_fields-loop-member-preserved t c = (
  fields.more_fields _ _ _ c.loop-member.member-index c.member-item.result _ _ c.in-Some.value c.loop-member-test.true c.member-item.is c.loop-member.invariant.0 c.in-Ok.ensures.name (rw c.in-Some.is at c.in_ok-value.ensures)
      (rw c.in_ok-name.ensures at c.in_ok-put.ensures.done),
  rw (c.in_ok-put.ensures.done, c.in_ok-name.ensures) (keys_put _ _ c.in-Some.value c.loop-member.invariant.1 c.show_text.ensures.utf8),
  rw (c.in_ok-put.ensures.done, c.in_ok-name.ensures) (members_put _ _ _ c.loop-member.invariant.2 (rw c.in-Some.is at c.in_ok-value.ensures).holds.stored),
)

pub plain_fields-returns : goal.plain_fields-returns
plain_fields-returns t c =
    let stored : AreStorable c.loop-member.fields = search rules in
    fields.all_fields _ _ _ _ _ c.loop-member.member-index _ (ap value_view c.in-Object.is ∙ view-Object c.in-Object.members) c.deref-member-items.ensures.value c.loop-member-test.false c.loop-member.auto.member-index-end
    c.loop-member.invariant.0 stored
