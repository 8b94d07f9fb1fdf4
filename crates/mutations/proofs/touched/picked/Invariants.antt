use Rattle.mutations.specs.Touched.{IsPartOf, SameAt}
use Rattle.mutations.proofs.Touching.{seen}
use Rattle.mutations.proofs.touched.picked.Given as goal

-- at the names so far the same stands, and nothing else came
abbrev pub invariant-loop-named : goal.invariant-loop-named
invariant-loop-named l = record {
  same : SameAt (seen l.named-items l.named-index) l.part l.fields;
  part : IsPartOf l.part l.fields;
}
