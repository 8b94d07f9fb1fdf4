use Rattle.std.proofs.Common.{◌≡◌, drop}
use Rattle.mutations.specs.Acknowledged.{settled_by}
use Rattle.mutations.proofs.change.settled_fields.Given as goal

-- what the transforms that are left make of the fields so far, they all make of the first ones
abbrev pub invariant-loop-place : goal.invariant-loop-place
invariant-loop-place l = settled_by l.fields (drop l.place l.transforms) (drop l.place l.results) ≡ settled_by l.fn.fields l.transforms l.results
