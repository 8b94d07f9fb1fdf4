use Rattle.std.proofs.Common.{take}
use Rattle.std.specs.List.{All}
use Rattle.mutations.specs.Effect.{IsOfFieldsOnly}
use Rattle.overlays.proofs.laying.writes_are_of_fields.Given as goal

abbrev pub invariant-loop-write : goal.invariant-loop-write
invariant-loop-write l = All IsOfFieldsOnly (take l.write-index l.writes)
