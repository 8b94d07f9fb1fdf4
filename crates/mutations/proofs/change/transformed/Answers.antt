use Rattle.std.proofs.Common.{subst}
use Rattle.mutations.specs.Changes.{Changed}
use Rattle.mutations.proofs.Locally.{transformed_is}
use Rattle.mutations.proofs.Steps.{transform_step, transform_end}
use Rattle.mutations.proofs.change.transformed.Goals as goal

pub loop-transform-preserved : goal.loop-transform-preserved
loop-transform-preserved c after rest =
    c.loop-transform.invariant after (transform_step c.args.at c.loop-transform.fields c.in_ok-fields.fields c.args.transforms.now c.loop-transform.transform-index c.transform-item.result c.in_ok-value.value after c.loop-transform-test.true c.transform-item.is (subst (λ found. Changed found c.transform-item.result.change c.args.at c.in_ok-value.value) c.at.ensures c.in_ok-value.ensures) c.in_ok-fields.ensures.done rest)

pub returns : goal.returns
returns c = transformed_is c.args.at c.args.fields c.loop-transform.fields c.args.transforms.now (c.loop-transform.invariant c.loop-transform.fields (transform_end c.args.at c.loop-transform.fields c.args.transforms.now c.loop-transform.transform-index c.loop-transform-test.false))
