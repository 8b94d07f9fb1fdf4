use Rattle.std.proofs.Common.{◌≡◌, take}
use Rattle.query_tests.proofs.shelf.copy_keys.Given as goal

-- the keys so far
abbrev pub invariant-loop-key : goal.invariant-loop-key
invariant-loop-key l = l.copies.items ≡ take l.key-index l.keys
