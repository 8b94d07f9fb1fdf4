use Rattle.std.proofs.Common.{◌≡◌, take}
use Rattle.target_cache.proofs.same.are_same_orders.Given as goal

-- those so far are the same
abbrev pub invariant-loop-i : goal.invariant-loop-i
invariant-loop-i l = take l.i l.orders ≡ take l.i l.others
