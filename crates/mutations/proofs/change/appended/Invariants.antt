use Rattle.std.proofs.Common.{List, drop}
use Rattle.value_model.specs.Data.{Data}
use Rattle.mutations.specs.Changes.{Appends}
use Rattle.mutations.proofs.change.appended.Given as goal

-- what the values that are left make of the items so far, they all make of the first ones
abbrev pub invariant-loop-value : goal.invariant-loop-value
invariant-loop-value l = (after : List Data) → Appends l.all.items (drop l.value-index l.added) after → Appends l.items l.added after
