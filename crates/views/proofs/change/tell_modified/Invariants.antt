use Rattle.std.proofs.Common.{take}
use Rattle.views.specs.declared.change.Kind.TheVariants.{Modified}
use Rattle.views.specs.Changes.{IsModified, Tells}
use Rattle.views.proofs.change.tell_modified.Given as goal

-- of the rows so far it was told
abbrev pub invariant-loop-row : goal.invariant-loop-row
invariant-loop-row l = Tells Modified (IsModified l.old) (take l.row-index l.rows) l.initial.changes.items l.changes.items
