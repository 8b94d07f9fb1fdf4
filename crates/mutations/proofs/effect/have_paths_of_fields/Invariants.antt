use Rattle.std.proofs.Common.{take}
use Rattle.mutations.specs.Effect.{HavePathsOfFields}
use Rattle.mutations.proofs.effect.have_paths_of_fields.Given as goal

abbrev pub invariant-loop-transform : goal.invariant-loop-transform
invariant-loop-transform l = HavePathsOfFields (take l.transform-index l.transforms)
