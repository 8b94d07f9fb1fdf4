use Rattle.std.proofs.Common.{drop}
use Rattle.value_model.specs.Data.{Entries}
use Rattle.mutations.specs.Changes.{Transformed}
use Rattle.mutations.proofs.change.transformed.Given as goal

-- what the transforms that are left make of the fields so far, they all make of the first ones
abbrev pub invariant-loop-transform : goal.invariant-loop-transform
invariant-loop-transform l = (after : Entries) → Transformed l.at l.fields (drop l.transform-index l.transforms) after → Transformed l.at l.fn.fields l.transforms after
