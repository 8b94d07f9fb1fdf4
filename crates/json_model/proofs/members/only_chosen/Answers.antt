use Rattle.std.proofs.Common.{ap, sym, ◌∙◌, ◌++◌, ◌∷◌, [], map}
use Rattle.std.specs.Map.Iter.{deref_pair}
use Rattle.std.proofs.lemmas.List.{map-append}
use Rattle.std.proofs.lemmas.Map.Iter.{rest_so_far, rest_more}
use Rattle.serde_json.specs.View.{view}
use Rattle.json_model.specs.Members.{is_chosen}
use Rattle.json_model.proofs.OneChosen.{kinds_same, kinds_first, kinds_two, none_yet, some_yet}
use Rattle.json_model.proofs.members.only_chosen.Goals as goal

pub loop-name-preserved-then-not-is_chosen : goal.loop-name-preserved-then-not-is_chosen
loop-name-preserved-then-not-is_chosen c = (
  tt,
  tt,
  rw (map-append deref_pair c.loop-name.yielded ((c.in-Some.name, c.in-Some.value) ∷ []))
      (kinds_same c.args.object (map deref_pair c.loop-name.yielded) c.in-Some.name.now c.in-Some.value.now c.as_str.result.now _ c.loop-name.invariant.2 c.as_str.ensures.value (sym c.if-not-is_chosen.ensures)),
)

pub returns-then-is_some : goal.returns-then-is_some
returns-then-is_some c =
    let so_far = rest_so_far deref_pair c.loop-name.yielded c.into_iter-name-iterator.result c.loop-name.name-iterator c.loop-name.yielded_by in
    let next = rest_more deref_pair c.loop-name.name-iterator c.next.new.self c.next.result (c.in-Some.name, c.in-Some.value) c.in-Some.is c.next.ensures.steps in
    let first = some_yet c.loop-name.only c.if-is_some.ensures in
    kinds_two c.args.object _ (map deref_pair c.loop-name.yielded) c.next.new.self c.in-Some.name.now c.in-Some.value.now c.as_str.result.now first.0
    (sym c.into_iter-name-iterator.ensures.into_iter_gives.0 ∙ so_far ∙ ap (λ l. map deref_pair c.loop-name.yielded ++ l) next)
    (c.loop-name.invariant.2 ∙ first.1) c.as_str.ensures.value (sym c.if-not-is_chosen.ensures)

pub loop-name-preserved : goal.loop-name-preserved
loop-name-preserved c = (
  tt,
  tt,
  rw (map-append deref_pair c.loop-name.yielded ((c.in-Some.name, c.in-Some.value) ∷ []))
      (kinds_first c.args.object (map deref_pair c.loop-name.yielded) c.in-Some.name.now c.in-Some.value.now c.as_str-in-loop-name.result.now (c.loop-name.invariant.2 ∙ none_yet c.loop-name.only c.if-is_some.ensures) c.as_str-in-loop-name.ensures.value
      (ap (λ t. is_chosen c.args.object t (view c.in-Some.value.now)) (c.as_str-in-loop-name.ensures.value ∙ sym c.as_str.ensures.value) ∙ sym c.if-not-is_chosen.ensures)),
)
