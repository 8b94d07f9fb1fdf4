use Rattle.std.proofs.Common.{◌≡◌, ◌∷◌, [], map, rules, ap, sym, subst, ◌∙◌, inl, inr, refl}
use Rattle.std.specs.Map.Iter.{deref_pair}
use Rattle.std.proofs.lemmas.List.{map-append}
use Rattle.std.proofs.lemmas.Map.Iter.{iter_end}
use Rattle.serde_json.specs.View.{view, items_view, members_view}
use Rattle.serde_json.proofs.Views.{view-Array, view-Object}
use Rattle.json_model.specs.Members.{is_left_out}
use Rattle.json_model.specs.Places.{required}
use Rattle.json_model.specs.Ranks.{better}
use Rattle.json_model.specs.Faults.{FirstOf, InLevels, MembersFaults, levels_inside, own_faults, own_list_faults}
use Rattle.json_model.proofs.Walked.{own_in_object, own_in_series, or_inside, in_levels, at_object, at_series, flat_object, flat_list, flat_scalar, names_of, if_ok, view_null, view_boolean, view_number, view_string, items_start, items_step, members_skip, members_step, members_end}
use Rattle.json_model.proofs.Lone.{lone_faults}
use Rattle.json_model.proofs.walk.+find.Goals as goal

pub find_fault-returns-in_default : goal.find_fault-returns-in_default
find_fault-returns-in_default t c =
    if_ok _ _ c.find_flat.result (λ found. flat_object c.args.setting.now c.args.limit c.args.name.now found c.args.place _ (members_view c.in-Object.members.entries) (ap view c.in-Object.is ∙ view-Object c.in-Object.members) c.in_default.not-Object) c.find_flat.ensures

pub find_fault-returns-in-Some : goal.find_fault-returns-in-Some
find_fault-returns-in-Some t c = rw c.in-Object-place.is
    (if_ok _ _ c.find_flat-in-Some.result (λ found. lone_faults c.args.setting.now c.args.limit c.args.name.now found c.in-Object-place.object _ (members_view c.in-Object.members.entries) _ _ _ (ap view c.in-Object.is ∙ view-Object c.in-Object.members) c.in-Some.ensures) c.find_flat-in-Some.ensures)

pub find_fault-returns-in-Some-2 : goal.find_fault-returns-in-Some-2
find_fault-returns-in-Some-2 t c = rw c.in-Object-place.is
    (own_in_object c.args.setting.now c.args.limit c.args.name.now _ _ (members_view c.in-Object.members.entries) c.in-Object-place.object c.in-Some-2.fault refl (ap view c.in-Object.is ∙ view-Object c.in-Object.members)
    (sym c.in-Some-2.is ∙ c.in_ok-fault-in-Object.ensures))

pub find_fault-returns-in_ok-inside-in-Object : goal.find_fault-returns-in_ok-inside-in-Object
find_fault-returns-in_ok-inside-in-Object t c = rw c.in-Object-place.is
    (at_object c.args.setting.now c.args.limit c.args.name.now _ _ (members_view c.in-Object.members.entries) c.in-Object-place.object (ap view c.in-Object.is ∙ view-Object c.in-Object.members)
    (or_inside (own_faults c.in-Object-place.object c.args.name.now (members_view c.in-Object.members.entries)) _ _ (sym c.in_default-2.is ∙ c.in_ok-fault-in-Object.ensures)
    (subst (λ kind. FirstOf (InLevels kind (members_view c.in-Object.members.entries) c.args.limit (λ inner. MembersFaults c.args.setting.now (levels_inside c.in-Object-place.object inner) kind (required kind) (members_view c.in-Object.members.entries))) c.improve.new.fault) c.refined-form.ensures
    (in_levels c.refined-form.result (members_view c.in-Object.members.entries) c.args.limit c.saturating_sub-left.result c.in_ok-levels-in-Object.levels _ c.depth_fault-fault.result c.in_ok-inside-in-Object.inside c.improve.new.fault
    c.in_ok-levels-in-Object.ensures c.depth_fault-fault.ensures c.saturating_sub-left.ensures
    (subst (λ n. FirstOf (MembersFaults c.args.setting.now n c.refined-form.result (required c.refined-form.result) (members_view c.in-Object.members.entries)) c.in_ok-inside-in-Object.inside) c.levels_inside-inner.ensures c.in_ok-inside-in-Object.ensures)
    c.improve.ensures))))

pub find_fault-returns-in_default-place : goal.find_fault-returns-in_default-place
find_fault-returns-in_default-place t c =
    if_ok _ _ c.find_flat-in_default-place.result (λ found. flat_list c.args.setting.now c.args.limit c.args.name.now found c.args.place _ (items_view c.in-Array.items.items) (ap view c.in-Array.is ∙ view-Array c.in-Array.items) c.in_default-place.not-Series) c.find_flat-in_default-place.ensures

pub find_fault-returns-in-Some-3 : goal.find_fault-returns-in-Some-3
find_fault-returns-in-Some-3 t c = rw c.in-Series.is
    (own_in_series c.args.setting.now c.args.limit c.args.name.now _ _ (items_view c.in-Array.items.items) c.in-Series.series c.in-Some-3.fault refl (ap view c.in-Array.is ∙ view-Array c.in-Array.items)
    (sym c.in-Some-3.is ∙ c.in_ok-fault-in-Array.ensures))

pub find_fault-returns-in_default-3 : goal.find_fault-returns-in_default-3
find_fault-returns-in_default-3 t c = rw c.in-Series.is
    (if_ok _ _ c.find_in_items.result (λ found inside. at_series c.args.setting.now c.args.limit c.args.name.now found _ (items_view c.in-Array.items.items) c.in-Series.series (ap view c.in-Array.is ∙ view-Array c.in-Array.items)
    (or_inside (own_list_faults c.in-Series.series c.args.name.now (items_view c.in-Array.items.items)) _ found (sym c.in_default-3.is ∙ c.in_ok-fault-in-Array.ensures) inside)) c.find_in_items.ensures)

pub find_fault-returns-in-Null : goal.find_fault-returns-in-Null
find_fault-returns-in-Null t c =
    if_ok _ _ c.find_flat-in-Null.result (λ found. elim c.in-Null.is [
      | inl n ↦ flat_scalar c.args.setting.now c.args.limit c.args.name.now found c.args.place _ _ (ap view n ∙ view_null) refl
      | inr r ↦ elim r [
        | inl b ↦ flat_scalar c.args.setting.now c.args.limit c.args.name.now found c.args.place _ _ (ap view b.1) (view_boolean b.0)
        | inr s ↦ elim s [
          | inl n ↦ flat_scalar c.args.setting.now c.args.limit c.args.name.now found c.args.place _ _ (ap view n.1) (view_number n.0)
          | inr x ↦ flat_scalar c.args.setting.now c.args.limit c.args.name.now found c.args.place _ _ (ap view x.1) (view_string x.0)
        ]
      ]
    ]) c.find_flat-in-Null.ensures

pub find_in_items-loop-item-init : goal.find_in_items-loop-item-init
find_in_items-loop-item-init t c = items_start c.args.setting.now c.args.limit c.args.series c.args.name.now

pub find_in_items-loop-item-preserved : goal.find_in_items-loop-item-preserved
find_in_items-loop-item-preserved t c =
    items_step c.args.setting.now c.args.limit c.args.series c.item_place.result c.args.name.now _ c.loop-item.item-index c.item-item.result c.loop-item.first c.in_ok-found.found c.improve.new.fault c.loop-item-test.true c.item-item.is c.item_place.ensures
    c.loop-item.invariant c.in_ok-found.ensures c.improve.ensures

pub find_in_members-loop-key-preserved-then-is_left_out : goal.find_in_members-loop-key-preserved-then-is_left_out
find_in_members-loop-key-preserved-then-is_left_out t c = (
  tt,
  tt,
  rw (map-append deref_pair c.loop-key.yielded ((c.in-Some.key, c.in-Some.member) ∷ []))
      (members_skip c.args.setting.now c.args.limit c.args.object (map deref_pair c.loop-key.yielded) (names_of c.loop-key.names.now) _ c.in-Some.key.now c.in-Some.member.now c.as_str-name.result.now c.loop-key.first c.in_ok-missed.missed c.improve.new.fault
      c.loop-key.invariant.2 c.as_str-name.ensures.value c.in_ok-missed.ensures c.improve.ensures c.later-names.ensures (ap (λ p. is_left_out p (view c.in-Some.member.now)) (sym c.member_place-inside.ensures) ∙ sym c.if-is_left_out.ensures)),
)

pub find_in_members-loop-key-preserved : goal.find_in_members-loop-key-preserved
find_in_members-loop-key-preserved t c = (
  tt,
  tt,
  rw (map-append deref_pair c.loop-key.yielded ((c.in-Some.key, c.in-Some.member) ∷ []))
      (members_step c.args.setting.now c.args.limit c.args.object (map deref_pair c.loop-key.yielded) (names_of c.loop-key.names.now) _ c.in-Some.key.now c.in-Some.member.now c.as_str-name.result.now c.member_place-inside.result c.loop-key.first c.in_ok-missed.missed
      c.improve.new.fault c.in_ok-own.own c.in_ok-found.found c.improve-in-loop-key-2.new.fault
      c.loop-key.invariant.2 c.as_str-name.ensures.value c.in_ok-missed.ensures c.improve.ensures c.later-names.ensures c.member_place-inside.ensures (sym c.if-is_left_out.ensures) c.in_ok-own.ensures c.in_ok-found.ensures
      (c.improve-in-loop-key-2.ensures ∙ ap (λ f. better c.improve.new.fault f) c.improve-in-loop-key.ensures)),
)

pub find_in_members-returns : goal.find_in_members-returns
find_in_members-returns t c =
    let all : map deref_pair c.loop-key.yielded ≡ c.args.members.now.entries = search (rules, iter_end) in
    members_end c.args.setting.now c.args.limit c.args.object (map deref_pair c.loop-key.yielded) _ (names_of c.loop-key.names.now) c.loop-key.first c.in_ok-last.last c.improve-2.new.fault c.loop-key.invariant.2 (sym all) c.in_ok-last.ensures c.improve-2.ensures
