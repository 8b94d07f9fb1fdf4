use Rattle.std.proofs.Common.{◌≡◌, ◌∙◌, ◌++◌, ◌∷◌, [], ap, nat_eq, subst, sym}
use Rattle.std.specs.Cmp.Lexicographic.{pointwise}
use Rattle.std.specs.List.{IsDistinct}
use Rattle.key_table.specs.Table.{Differ, HasKeysOf}
use Rattle.key_table.proofs.Listing.{all_found, all_left, passed, taken}
use Rattle.key_table.proofs.Orders.{each_once, keys_of_table}
use Rattle.key_table.proofs.lists.found.Goals as goal

pub loop-key-init : goal.loop-key-init
loop-key-init g c =
    let whole = c.into_iter-key-iterator.ensures.into_iter_gives ∙ c.keys-key-items.ensures.rest in
    all_left Differ c.args.collection.now c.into_iter-key-iterator.result c.new-keys.result.items c.new-keys.ensures.items
    (each_once c.into_iter-key-iterator.result (subst (IsDistinct (pointwise (pointwise nat_eq))) (sym whole) c.keys-key-items.ensures.unique))

pub loop-key-preserved-in_ok-push : goal.loop-key-preserved-in_ok-push
loop-key-preserved-in_ok-push g c =
    let step : c.loop-key.key-iterator ≡ c.in-Some.key.now ∷ c.next.new.self = c.in-Some.ensures.steps in
    let push : c.push.new.self.items ≡ c.loop-key.keys.items ++ c.in_ok-copy.field-0 ∷ [] = c.in_ok-push.ensures.items in
    let pushed : c.push.new.self.items ≡ c.loop-key.keys.items ++ c.in-Some.key.now ∷ [] = push ∙ ap (λ k. c.loop-key.keys.items ++ k ∷ []) c.in_ok-copy.ensures in
    taken c.args.collection.now c.into_iter-key-iterator.result c.in-Some.key.now c.next.new.self c.loop-key.key-iterator c.loop-key.keys.items step c.loop-key.invariant c.push.new.self.items pushed (c.is_in.ensures.0 c.if-is_in.true)

pub loop-key-preserved : goal.loop-key-preserved
loop-key-preserved g c =
    let step : c.loop-key.key-iterator ≡ c.in-Some.key.now ∷ c.next.new.self = c.in-Some.ensures.steps in
    passed c.args.collection.now c.into_iter-key-iterator.result c.in-Some.key.now c.next.new.self c.loop-key.key-iterator c.loop-key.keys.items step c.loop-key.invariant (λ it. let yes_it_is = c.is_in.ensures.1 it in let no_it_is = c.if-is_in.false in cc)

pub returns-clause-members : goal.returns-clause-members
returns-clause-members g c =
    let same = keys_of_table c.args.places.now.entries c.keys-key-items.result c.keys-key-items.ensures.has in
    all_found c.args.places.now.entries c.args.collection.now c.into_iter-key-iterator.result c.loop-key.key-iterator c.loop-key.keys.items (subst (HasKeysOf c.args.places.now.entries) (sym c.into_iter-key-iterator.ensures.into_iter_gives) same) c.in-None.ensures.steps.0 c.loop-key.invariant
