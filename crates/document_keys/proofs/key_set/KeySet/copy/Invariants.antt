use Rattle.std.proofs.Common.{◌≡◌, take}
use Rattle.document_keys.proofs.key_set.KeySet.copy.Given as goal

abbrev pub invariant-loop-key : goal.invariant-loop-key
invariant-loop-key l = l.keys.items ≡ take l.key-index l.key-items
