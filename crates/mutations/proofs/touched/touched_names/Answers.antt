use Rattle.mutations.specs.Touched.{IsTouched}
use Rattle.mutations.proofs.Touching.{all_more, all_end, touched_still}
use Rattle.mutations.proofs.touched.touched_names.Goals as goal

pub loop-transform-preserved : goal.loop-transform-preserved
loop-transform-preserved c =
    let still = touched_still c.loop-transform.names c.touch.new.names c.in_ok-touch.ensures.kept in
    record {
      mask = λ k d below. still _ (c.loop-transform.invariant.mask k d below);
      transforms = all_more (λ t. IsTouched c.loop-transform.names t.path) (λ t. IsTouched c.touch.new.names t.path) c.args.transforms.now c.loop-transform.transform-index c.transform-item.result
          c.loop-transform-test.true c.transform-item.is (λ t. still t.path) c.loop-transform.invariant.transforms c.in_ok-touch.ensures.touched;
    }

pub returns-clause-transforms : goal.returns-clause-transforms
returns-clause-transforms c = all_end (λ t. IsTouched c.loop-transform.names t.path) c.args.transforms.now c.loop-transform.transform-index c.loop-transform-test.false c.loop-transform.invariant.transforms
