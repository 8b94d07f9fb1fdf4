use Rattle.std.proofs.Common.{take}
use Rattle.query_tests.specs.Shelf.{KeepsIn}
use Rattle.query_tests.proofs.shelf.keys_in.Given as goal

-- the keys of the documents so far
abbrev pub invariant-loop-held : goal.invariant-loop-held
invariant-loop-held l = KeepsIn l.collection (take l.held-index l.documents) l.keys
