use Rattle.std.proofs.Common.{◌≡◌, map, take}
use Rattle.overlays.specs.LocalDocument.{local_document}
use Rattle.overlays.proofs.laying.lent_laid_on.Given as goal

abbrev pub invariant-loop-batch : goal.invariant-loop-batch
invariant-loop-batch l = l.document ≡ local_document l.key l.initial.document (map (λ b. b.now) (take l.batch-index l.batches))
