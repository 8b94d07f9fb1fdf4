use Rattle.std.proofs.Common.{◌≡◌, take}
use Rattle.mutations.proofs.transform.Transforms.copy.Given as goal

abbrev pub invariant-loop-transform : goal.invariant-loop-transform
invariant-loop-transform l = l.items.items ≡ take l.transform-index l.transform-items
