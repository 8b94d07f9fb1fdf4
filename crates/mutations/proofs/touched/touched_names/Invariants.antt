use Rattle.std.proofs.Common.{take}
use Rattle.std.specs.List.{All}
use Rattle.mutations.specs.Touched.{IsTouched, AreTouched}
use Rattle.mutations.proofs.touched.touched_names.Given as goal

-- the first names of the mask's paths are there, and those of the transforms so far
abbrev pub invariant-loop-transform : goal.invariant-loop-transform
invariant-loop-transform l = record {
  mask : All (IsTouched l.names) l.mask;
  transforms : AreTouched l.names (take l.transform-index l.transforms);
}
