use Rattle.value_model.specs.Data.{Entries}
use Rattle.mutations.specs.Touched.{HasGrown, HasNames, SameBeside}
use Rattle.mutations.proofs.Touching.{seen}
use Rattle.mutations.proofs.touched.make_places.Given as goal

-- the names so far have fields, and those made are noted
abbrev pub invariant-loop-named : goal.invariant-loop-named
invariant-loop-named l = record {
  there : HasNames l.fields (seen l.named-items l.named-index);
  grown : (old : Entries) → HasGrown l.fn.made old l.fn.fields → HasGrown l.made old l.fields;
  within : SameBeside l.names l.made l.fn.made;
}
