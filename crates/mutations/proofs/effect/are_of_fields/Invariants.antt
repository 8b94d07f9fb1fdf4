use Rattle.std.proofs.Common.{take}
use Rattle.std.specs.List.{All}
use Rattle.mutations.specs.Effect.{IsOfFields}
use Rattle.mutations.proofs.effect.are_of_fields.Given as goal

abbrev pub invariant-loop-path : goal.invariant-loop-path
invariant-loop-path l = All IsOfFields (take l.path-index l.paths)
