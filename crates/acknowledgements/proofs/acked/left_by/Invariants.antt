use Rattle.std.proofs.Common.{◌≡◌, ◌<◌, ◌≤◌, ◌-◌, true, drop, get_or, length}
use Rattle.document_keys.specs.KeySet.{is_key}
use Rattle.mutations.specs.declared.write.Write.{Write}
use Rattle.acknowledgements.specs.Acked.{left_by}
use Rattle.mutations.specs.Written.{written_key}
use Rattle.acknowledgements.proofs.acked.left_by.Given as goal

abbrev pub invariant-loop-place : goal.invariant-loop-place
invariant-loop-place l = record {
  within : l.place ≤ length l.writes;
  of_key : (w : Write) → l.place < length l.writes → is_key (written_key (get_or l.writes l.place w)) l.key ≡ true;
  so_far : left_by l.key l.version l.left (drop l.place l.writes) (drop l.place l.results) ≡ left_by l.key l.version l.initial.left l.writes l.results;
}

abbrev pub decreases-loop-place : goal.decreases-loop-place
decreases-loop-place l = length l.writes - l.place
