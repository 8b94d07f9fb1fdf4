use Rattle.std.proofs.Common.{◌+◌}
use Rattle.durable_state.proofs.Merged.{Merging}
use Rattle.durable_state.proofs.merging.merged.Given as goal

abbrev pub invariant-loop-key : goal.invariant-loop-key
invariant-loop-key l = Merging l.fn.left.items l.fn.right.items l.left.items l.right.items l.keys.items

abbrev pub decreases-loop-key : goal.decreases-loop-key
decreases-loop-key l = l.left.len + l.right.len
