use Rattle.std.proofs.Common.{◌≡◌, ◌<◌, ◌≤◌, ℕ, false, get_or}
use Rattle.document_keys.specs.KeySet.{is_key}
use Rattle.mutations.specs.declared.write.Write.{Write}
use Rattle.mutations.specs.Written.{written_key}
use Rattle.keyed_writes.proofs.keyed.scan.Given as goal

-- none of the writes so far has the key
abbrev pub invariant-loop-place : goal.invariant-loop-place
invariant-loop-place l = (i : ℕ) (w : Write) → l.from ≤ i → i < l.place → is_key (written_key (get_or l.writes i w)) l.key ≡ false
