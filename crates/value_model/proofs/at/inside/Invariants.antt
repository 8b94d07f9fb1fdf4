use Rattle.std.proofs.Common.{◌≡◌, drop}
use Rattle.value_model.specs.Paths.{value_in}
use Rattle.value_model.proofs.at.inside.Given as goal

abbrev pub invariant-loop-i : goal.invariant-loop-i
invariant-loop-i l = value_in l.found (drop l.i l.path) ≡ value_in l.value (drop l.from l.path)
