use Rattle.value_model.specs.Fields.{AreFields}
use Rattle.mutations.specs.Touched.{SameAt, SameBeside}
use Rattle.mutations.proofs.Touching.{seen}
use Rattle.mutations.proofs.touched.put_back.Given as goal

-- at the names so far stands what the part had, at the others what stood there; what the part has at others is left
abbrev pub invariant-loop-named : goal.invariant-loop-named
invariant-loop-named l = record {
  here : SameAt (seen l.named-items l.named-index) l.fields l.fn.part;
  beside : SameBeside (seen l.named-items l.named-index) l.fields l.fn.fields;
  left : SameBeside (seen l.named-items l.named-index) l.part l.fn.part;
  fields : AreFields l.fields;
}
