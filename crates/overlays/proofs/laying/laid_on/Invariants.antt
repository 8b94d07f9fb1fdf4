use Rattle.std.proofs.Common.{◌≡◌, fold, take}
use Rattle.overlays.specs.LocalDocument.{after_write}
use Rattle.overlays.proofs.laying.laid_on.Given as goal

abbrev pub invariant-loop-write : goal.invariant-loop-write
invariant-loop-write l = l.document ≡ fold (after_write l.key l.batch.at) l.initial.document (take l.write-index l.batch.writes)
