use Rattle.std.proofs.Common.{◌≡◌, ◌∙◌, ◌↔◌, ◌∷◌, subst}
use Rattle.std.specs.List.{Contains}
use Rattle.document_keys.specs.KeySet.{Inserts}
use Rattle.key_table.proofs.Listing.{all_gathered, gathered}
use Rattle.key_table.proofs.lists.gathered.Goals as goal

pub loop-key-preserved : goal.loop-key-preserved
loop-key-preserved c =
    let step : c.loop-key.key-iterator ≡ c.in-Some.key.now ∷ c.next.new.self = c.in-Some.ensures.steps in
    gathered c.into_iter-key-iterator.result c.in-Some.key.now c.next.new.self c.loop-key.key-iterator c.loop-key.keys c.insert.new.self step
    (subst (λ k. Inserts k c.loop-key.keys c.insert.new.self) c.in_ok-copy.ensures c.in_ok-insert.ensures.done) c.loop-key.invariant

pub returns : goal.returns
returns c = λ q.
    let whole : c.into_iter-key-iterator.result ≡ c.args.order.now.keys = c.into_iter-key-iterator.ensures.into_iter_gives ∙ c.iter-key-items.ensures.rest in
    let all = all_gathered c.into_iter-key-iterator.result c.loop-key.key-iterator c.in-None.ensures.steps.0 c.loop-key.invariant q in
    subst (λ w. Contains c.loop-key.keys q ↔ Contains w q) whole all
