use Rattle.std.proofs.Common.{◌≡◌, ◌∙◌, sym, ap, refl, arith}
use Rattle.std.specs.Cmp.Lexicographic.{pointwise_decides, bytes_decides}
use Rattle.document_keys.proofs.Fields.{walk_more, walk_whole}
use Rattle.queries.specs.declared.order.Order.{Order}
use Rattle.queries.proofs.Gathered.{path_in, none_by}
use Rattle.queries.proofs.whole_orders.are_by.Goals as goal

pub returns-then-eq : goal.returns-then-eq
returns-then-eq c =
    let decides = pointwise_decides bytes_decides c.order-item.result.path c.args.path.now in
    let same = ap (λ (o : Order). o.path) (sym c.order-item.is) ∙ decides.0 (sym c.eq.ensures ∙ c.if-eq.true) in
    (λ yes. path_in c.args.orders.now c.loop-order.order-index c.order-item.result c.args.path.now c.loop-order-test.true same, λ there. refl)

pub loop-order-preserved : goal.loop-order-preserved
loop-order-preserved c =
    let decides = pointwise_decides bytes_decides c.order-item.result.path c.args.path.now in
    walk_more (λ o. o.path ≡ c.args.path.now → ⊥) _ _ _ (omega arith) c.order-item.is c.loop-order.invariant
    (λ same. let yes = c.eq.ensures ∙ decides.1 same in let no = c.if-eq.false in cc (yes, no))

pub returns : goal.returns
returns c =
    let all = walk_whole (λ o. o.path ≡ c.args.path.now → ⊥) _ _ (omega arith) c.loop-order.invariant in
    (λ no. cc, λ there. absurd (none_by c.args.orders.now c.args.path.now all there))
