use Rattle.std.proofs.Common.{subst}
use Rattle.mutations.specs.Touched.{HasName, SameAt}
use Rattle.mutations.proofs.Touching.{at_more, named_so, no_name, part_more, seen_all}
use Rattle.mutations.proofs.touched.picked.Goals as goal

pub loop-named-init : goal.loop-named-init
loop-named-init c = record {
  same = λ name has. absurd (no_name name has);
  part = λ name has. absurd (no_name name (subst (λ f. HasName f name) c.new-part.ensures has));
}

pub pick-requires-clause-name : goal.pick-requires-clause-name
pick-requires-clause-name c = named_so c.as_slice-named-items.result.now c.args.names.now c.as_slice-named-items.ensures.shown c.loop-named.named-index c.named-item.result c.loop-named-test.true c.named-item.is c.as_slice-named-items.ensures.fields

pub loop-named-preserved : goal.loop-named-preserved
loop-named-preserved c = record {
  same = at_more c.as_slice-named-items.result.now c.loop-named.named-index c.named-item.result c.loop-named-test.true c.named-item.is c.loop-named.part c.pick.new.part c.args.fields.now c.in_ok-pick.ensures.here c.in_ok-pick.ensures.beside c.loop-named.invariant.same;
  part = part_more c.loop-named.part c.pick.new.part c.args.fields.now c.named-item.result.name c.in_ok-pick.ensures.here c.in_ok-pick.ensures.beside c.loop-named.invariant.part;
}

pub returns-clause-same : goal.returns-clause-same
returns-clause-same c = subst (λ names. SameAt names c.loop-named.part c.args.fields.now) (seen_all c.as_slice-named-items.result.now c.args.names.now c.as_slice-named-items.ensures.shown c.loop-named.named-index c.loop-named-test.false) c.loop-named.invariant.same
