use Rattle.std.proofs.Common.{List, ◌++◌, drop}
use Rattle.value_model.specs.Data.{Data}
use Rattle.mutations.specs.Changes.{Removes}
use Rattle.mutations.proofs.change.others.Given as goal

-- what is kept of the items that are left comes behind what was kept so far
abbrev pub invariant-loop-item : goal.invariant-loop-item
invariant-loop-item l = (after : List Data) → Removes l.removed (drop l.item-index l.items) after → Removes l.removed l.items (l.kept.items ++ after)
