use Rattle.std.proofs.Common.{◌≡◌, ◌∙◌, ◌++◌, ◌∷◌, [], ap}
use Rattle.key_table.proofs.Listing.{Along, Precedes, all_left, all_listed, along_from, along_paired, ascending_paths, none_ahead, none_at_end, passed, taken}
use Rattle.key_table.proofs.Ranges.{part_is}
use Rattle.key_table.proofs.lists.listed.Goals as goal

pub loop-key-init : goal.loop-key-init
loop-key-init c =
    let whole = part_is c.args.collection.now c.in_ok-least.least c.args.order.now.keys c.range-key-items.result c.into_iter-key-iterator.result c.in_ok-least.ensures (c.range-key-items.ensures.between tt) c.into_iter-key-iterator.ensures.into_iter_gives in
    let along : Along c.args.collection.now c.args.order.now.keys c.into_iter-key-iterator.result = record { is = whole; sorted = c.range-key-items.ensures.ordered } in
    all_left Precedes c.args.collection.now c.into_iter-key-iterator.result c.new-keys.result.items c.new-keys.ensures.items (along_paired c.args.collection.now c.args.order.now.keys c.into_iter-key-iterator.result along)

pub loop-key-preserved-in_ok-push : goal.loop-key-preserved-in_ok-push
loop-key-preserved-in_ok-push c =
    let step : c.loop-key.key-iterator ≡ c.in-Some.key.now ∷ c.next.new.self = c.in-Some.ensures.steps in
    let push : c.push.new.self.items ≡ c.loop-key.keys.items ++ c.in_ok-copy.field-0 ∷ [] = c.in_ok-push.ensures.items in
    let pushed : c.push.new.self.items ≡ c.loop-key.keys.items ++ c.in-Some.key.now ∷ [] = push ∙ ap (λ k. c.loop-key.keys.items ++ k ∷ []) c.in_ok-copy.ensures in
    taken c.args.collection.now c.into_iter-key-iterator.result c.in-Some.key.now c.next.new.self c.loop-key.key-iterator c.loop-key.keys.items step c.loop-key.invariant c.push.new.self.items pushed (c.is_in.ensures.0 c.if-is_in.true)

pub loop-key-preserved : goal.loop-key-preserved
loop-key-preserved c =
    let step : c.loop-key.key-iterator ≡ c.in-Some.key.now ∷ c.next.new.self = c.in-Some.ensures.steps in
    passed c.args.collection.now c.into_iter-key-iterator.result c.in-Some.key.now c.next.new.self c.loop-key.key-iterator c.loop-key.keys.items step c.loop-key.invariant (λ it. let yes_it_is = c.is_in.ensures.1 it in let no_it_is = c.if-is_in.false in cc)

pub returns-then-not-is_below-clause-ascending : goal.returns-then-not-is_below-clause-ascending
returns-then-not-is_below-clause-ascending c = ascending_paths c.loop-key.keys.items c.loop-key.invariant.paired

pub returns-then-not-is_below-clause-members : goal.returns-then-not-is_below-clause-members
returns-then-not-is_below-clause-members c =
    let step : c.loop-key.key-iterator ≡ c.in-Some.key.now ∷ c.next.new.self = c.in-Some.ensures.steps in
    let whole = part_is c.args.collection.now c.in_ok-least.least c.args.order.now.keys c.range-key-items.result c.into_iter-key-iterator.result c.in_ok-least.ensures (c.range-key-items.ensures.between tt) c.into_iter-key-iterator.ensures.into_iter_gives in
    let along : Along c.args.collection.now c.args.order.now.keys c.into_iter-key-iterator.result = record { is = whole; sorted = c.range-key-items.ensures.ordered } in
    let none = none_ahead c.args.collection.now c.into_iter-key-iterator.result c.in-Some.key.now c.next.new.self c.loop-key.key-iterator c.loop-key.keys.items step c.loop-key.invariant (along_from c.args.collection.now c.args.order.now.keys c.into_iter-key-iterator.result along) (λ below. let yes_it_is = c.is_below.ensures.1 below in let no_it_is = c.if-not-is_below.true in cc) in
    all_listed c.args.collection.now c.args.order.now.keys c.into_iter-key-iterator.result along c.requires c.loop-key.key-iterator c.loop-key.keys.items none c.loop-key.invariant

pub returns-clause-ascending : goal.returns-clause-ascending
returns-clause-ascending c = ascending_paths c.loop-key.keys.items c.loop-key.invariant.paired

pub returns-clause-members : goal.returns-clause-members
returns-clause-members c =
    let whole = part_is c.args.collection.now c.in_ok-least.least c.args.order.now.keys c.range-key-items.result c.into_iter-key-iterator.result c.in_ok-least.ensures (c.range-key-items.ensures.between tt) c.into_iter-key-iterator.ensures.into_iter_gives in
    let along : Along c.args.collection.now c.args.order.now.keys c.into_iter-key-iterator.result = record { is = whole; sorted = c.range-key-items.ensures.ordered } in
    all_listed c.args.collection.now c.args.order.now.keys c.into_iter-key-iterator.result along c.requires c.loop-key.key-iterator c.loop-key.keys.items (none_at_end c.args.collection.now c.loop-key.key-iterator c.in-None.ensures.steps.0) c.loop-key.invariant
