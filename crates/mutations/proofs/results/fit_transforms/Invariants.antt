use Rattle.std.proofs.Common.{take}
use Rattle.mutations.specs.Results.{FitsTransforms}
use Rattle.mutations.proofs.results.fit_transforms.Given as goal

abbrev pub invariant-loop-place : goal.invariant-loop-place
invariant-loop-place l = FitsTransforms (take l.place l.transforms) (take l.place l.values)
