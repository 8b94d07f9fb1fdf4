use Rattle.std.proofs.Common.{◌≡◌, take, drop, fold}
use Rattle.mutations.specs.Local.{taken_over, masked}
use Rattle.mutations.specs.Masks.{Masked}
use Rattle.mutations.proofs.mask.masked.Given as goal

-- the paths so far are taken over, and what is left leads to what all make
abbrev pub invariant-loop-path : goal.invariant-loop-path
invariant-loop-path l = record {
  says : Masked l.fn.fields l.input (take l.path-index l.mask) l.fields;
  exact : fold (taken_over l.input) l.fields (drop l.path-index l.mask) ≡ masked l.fn.fields l.input l.mask;
}
