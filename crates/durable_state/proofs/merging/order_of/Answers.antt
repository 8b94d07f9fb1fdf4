use Rattle.std.proofs.Common.{refl, arith}
use Rattle.durable_state.proofs.Merged.{ranked}
use Rattle.durable_state.proofs.merging.order_of.Goals as goal

pub returns-in-Some-Some : goal.returns-in-Some-Some
returns-in-Some-Some c =
    ranked c.in-Some-Some.left.now c.in-Some-Some.right.now c.args.left.now.items c.args.right.now.items c.cmp.result
    (omega (arith, c.in-Some-Some.ensures.variant.0 refl)) c.in-Some-Some.ensures.lookup (omega (arith, c.in-Some-Some.ensures'.variant.0 refl)) c.in-Some-Some.ensures'.lookup c.cmp.ensures
