use Rattle.std.proofs.Common.{refl}
use Rattle.mutations.proofs.Locally.{mask_more, mask_last}
use Rattle.mutations.proofs.Taking.{none_taken, mask_step, mask_end}
use Rattle.mutations.proofs.mask.masked.Goals as goal

pub loop-path-init : goal.loop-path-init
loop-path-init c = record {
  says = none_taken c.args.fields c.args.input.now;
  exact = refl;
}

pub loop-path-preserved : goal.loop-path-preserved
loop-path-preserved c = record {
  says = mask_step c.args.fields c.args.input.now c.loop-path.fields c.in_ok-fields.fields c.args.mask.now c.loop-path.path-index c.path-item.result c.loop-path-test.true c.path-item.is c.loop-path.invariant.says c.in_ok-fields.ensures.takes;
  exact = mask_more c.args.fields c.args.input.now c.loop-path.fields c.in_ok-fields.fields c.args.mask.now c.loop-path.path-index c.path-item.result c.loop-path-test.true c.path-item.is c.loop-path.invariant.exact c.in_ok-fields.ensures.exact;
}

pub returns-clause-says : goal.returns-clause-says
returns-clause-says c = mask_end c.args.fields c.args.input.now c.loop-path.fields c.args.mask.now c.loop-path.path-index c.loop-path-test.false c.loop-path.invariant.says

pub returns-clause-exact : goal.returns-clause-exact
returns-clause-exact c = mask_last c.args.fields c.args.input.now c.loop-path.fields c.args.mask.now c.loop-path.path-index c.loop-path-test.false c.loop-path.invariant.exact
