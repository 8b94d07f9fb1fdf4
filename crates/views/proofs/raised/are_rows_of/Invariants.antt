use Rattle.std.proofs.Common.{take}
use Rattle.views.specs.Row.{Prints}
use Rattle.views.proofs.raised.are_rows_of.Given as goal

-- the rows so far are those of the keys so far
abbrev pub invariant-loop-i : goal.invariant-loop-i
invariant-loop-i g l = Prints (g.D.Documents.documents l.docs) (take l.i l.keys) (take l.i l.rows)
