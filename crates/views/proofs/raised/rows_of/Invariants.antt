use Rattle.std.proofs.Common.{take}
use Rattle.views.specs.Row.{Prints}
use Rattle.views.proofs.raised.rows_of.Given as goal

-- the rows are those of the keys so far
abbrev pub invariant-loop-key : goal.invariant-loop-key
invariant-loop-key g l = Prints (g.D.Documents.documents l.docs) (take l.key-index l.keys) l.rows
