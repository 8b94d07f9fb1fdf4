use Rattle.std.proofs.Common.{◌+◌, ◌-◌, ◌/◌, IsTrue, subst, sym, arith}
use Rattle.queries.specs.declared.target.Target.{Target}
use Rattle.target_cache.specs.Order.{IsBefore, targets_in}
use Rattle.target_cache.proofs.Targets.{goes_down, goes_up}
use Rattle.target_cache.proofs.order.lower.Goals as goal

pub loop-low-preserved-then-is_before : goal.loop-low-preserved-then-is_before
loop-low-preserved-then-is_before c =
    let yes : IsTrue c.is_before.result = cc in
    goes_up (targets_in c.args.rows.now c.args.order.now) c.args.target.now c.requires.ascending c.loop-low.low c.loop-low.high (c.loop-low.low + (c.loop-low.high - c.loop-low.low) / 2) c.loop-low.invariant (omega arith) (omega arith)
    (subst (λ (t : Target). IsBefore t c.args.target.now) c.target_at.ensures (c.is_before.ensures.0 yes))

pub loop-low-preserved : goal.loop-low-preserved
loop-low-preserved c =
    let never : IsTrue c.is_before.result → ⊥ = λ yes. cc in
    goes_down (targets_in c.args.rows.now c.args.order.now) c.args.target.now c.requires.ascending c.loop-low.low c.loop-low.high (c.loop-low.low + (c.loop-low.high - c.loop-low.low) / 2) c.loop-low.invariant (omega arith) (omega arith)
    (λ before. never (c.is_before.ensures.1 (subst (λ (t : Target). IsBefore t c.args.target.now) (sym c.target_at.ensures) before)))
