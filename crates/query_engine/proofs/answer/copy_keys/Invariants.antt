use Rattle.std.proofs.Common.{◌≡◌, take}
use Rattle.query_engine.specs.Kept.{keys_of}
use Rattle.query_engine.proofs.answer.copy_keys.Given as goal

-- the keys of the rows so far
abbrev pub invariant-loop-row : goal.invariant-loop-row
invariant-loop-row l = l.keys.items ≡ keys_of (take l.row-index l.rows)
