use Rattle.std.proofs.Common.{◌≡◌, ℕ, List, None}
use Rattle.value_model.specs.Fields.{AreFields, field}
use Rattle.mutations.specs.Touched.{HasName, SameBeside}
use Rattle.mutations.proofs.Touching.{seen}
use Rattle.mutations.proofs.touched.take_away.Given as goal

-- the names so far have no field, and the others what they had
abbrev pub invariant-loop-named : goal.invariant-loop-named
invariant-loop-named l = record {
  gone : (name : List ℕ) → HasName (seen l.named-items l.named-index) name → field l.fields name ≡ None;
  others : SameBeside (seen l.named-items l.named-index) l.fields l.fn.fields;
  fields : AreFields l.fields;
}
