use Rattle.std.proofs.Common.{◌-◌}
use Rattle.target_cache.specs.Order.{targets_in}
use Rattle.target_cache.proofs.Targets.{IsBetween}
use Rattle.target_cache.proofs.order.lower.Given as goal

-- the targets below are before the target, and those above aren't
abbrev pub invariant-loop-low : goal.invariant-loop-low
invariant-loop-low l = IsBetween (targets_in l.rows l.order) l.target l.low l.high

abbrev pub decreases-loop-low : goal.decreases-loop-low
decreases-loop-low l = l.high - l.low
