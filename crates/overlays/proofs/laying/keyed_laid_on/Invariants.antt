use Rattle.std.proofs.Common.{◌≡◌, ◌<◌, ◌≤◌, ◌-◌, true, fold, drop, get_or, length}
use Rattle.document_keys.specs.KeySet.{is_key}
use Rattle.mutations.specs.Written.{written_key}
use Rattle.mutations.specs.declared.write.Write.{Write}
use Rattle.overlays.specs.LocalDocument.{after_write}
use Rattle.overlays.proofs.laying.keyed_laid_on.Given as goal

abbrev pub invariant-loop-place : goal.invariant-loop-place
invariant-loop-place l = record {
  within : l.place ≤ length l.writes;
  of_key : (w : Write) → l.place < length l.writes → is_key (written_key (get_or l.writes l.place w)) l.key ≡ true;
  so_far : fold (after_write l.key l.at) l.document (drop l.place l.writes) ≡ fold (after_write l.key l.at) l.initial.document l.writes;
}

abbrev pub decreases-loop-place : goal.decreases-loop-place
decreases-loop-place l = length l.writes - l.place
