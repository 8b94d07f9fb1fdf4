use Rattle.std.proofs.Common.{take}
use Rattle.views.specs.Changes.{IsNotIn, Tells}
use Rattle.views.proofs.change.tell_missing.Given as goal

-- of the rows so far it was told
abbrev pub invariant-loop-row : goal.invariant-loop-row
invariant-loop-row l = Tells l.kind (IsNotIn l.others) (take l.row-index l.rows) l.initial.changes.items l.changes.items
