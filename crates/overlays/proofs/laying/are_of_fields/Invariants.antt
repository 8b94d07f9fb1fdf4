use Rattle.std.proofs.Common.{take}
use Rattle.std.specs.List.{All}
use Rattle.overlays.specs.Table.{IsBatchOfFields}
use Rattle.overlays.proofs.laying.are_of_fields.Given as goal

abbrev pub invariant-loop-batch : goal.invariant-loop-batch
invariant-loop-batch l = All IsBatchOfFields (take l.batch-index l.batches)
