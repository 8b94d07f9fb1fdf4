use Rattle.std.proofs.Common.{◌≢◌, ◌<◌, ℕ, get_or}
use Rattle.target_cache.specs.Order.{no_target, targets_in}
use Rattle.target_cache.proofs.order.place_from.Given as goal

-- none of the targets so far is the target
abbrev pub invariant-loop-i : goal.invariant-loop-i
invariant-loop-i l = (k : ℕ) → k < l.i → get_or (targets_in l.rows l.order) k no_target ≢ l.target
