use Rattle.std.proofs.Common.{◌≡◌, ◌∙◌, ◌∷◌, ap, cond, subst, sym, true}
use Rattle.std.specs.List.{list_any}
use Rattle.document_keys.specs.KeySet.{is_key}
use Rattle.key_table.specs.Table.{HasKeysOf}
use Rattle.key_table.proofs.Orders.{all_put, keys_of_table, one_put}
use Rattle.key_table.proofs.order.in_order.Goals as goal

pub loop-key-preserved : goal.loop-key-preserved
loop-key-preserved g c =
    let step : c.loop-key.key-iterator ≡ c.in-Some.key.now ∷ c.next.new.self = c.in-Some.ensures.steps in
    one_put c.into_iter-key-iterator.result c.in-Some.key.now c.next.new.self c.loop-key.key-iterator c.loop-key.order.keys c.insert.new.self.keys step
    (λ q. c.in_ok-insert.ensures.updates.0 q ∙ ap (λ k. cond (is_key k q) true (list_any (is_key q) c.loop-key.order.keys)) c.in_ok-copy.ensures) c.loop-key.invariant

pub returns : goal.returns
returns g c =
    let same = keys_of_table c.args.places.now.entries c.keys-key-items.result c.keys-key-items.ensures.has in
    all_put c.args.places.now.entries c.into_iter-key-iterator.result c.loop-key.key-iterator c.loop-key.order.keys c.in-None.ensures.steps.0 (subst (HasKeysOf c.args.places.now.entries) (sym c.into_iter-key-iterator.ensures.into_iter_gives) same) c.loop-key.invariant
