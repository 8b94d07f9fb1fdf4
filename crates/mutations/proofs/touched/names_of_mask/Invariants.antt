use Rattle.std.proofs.Common.{take}
use Rattle.std.specs.List.{All}
use Rattle.mutations.specs.Touched.{IsTouched}
use Rattle.mutations.proofs.touched.names_of_mask.Given as goal

-- the first names of the paths so far are there
abbrev pub invariant-loop-path : goal.invariant-loop-path
invariant-loop-path l = All (IsTouched l.names) (take l.path-index l.mask)
