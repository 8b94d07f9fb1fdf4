use Rattle.mutations.specs.Touched.{IsTouched}
use Rattle.mutations.proofs.Touching.{all_more, all_end, touched_still}
use Rattle.mutations.proofs.touched.names_of_mask.Goals as goal

pub loop-path-preserved : goal.loop-path-preserved
loop-path-preserved c =
    all_more (IsTouched c.loop-path.names) (IsTouched c.touch.new.names) c.args.mask.now c.loop-path.path-index c.path-item.result c.loop-path-test.true c.path-item.is
    (touched_still c.loop-path.names c.touch.new.names c.in_ok-touch.ensures.kept) c.loop-path.invariant c.in_ok-touch.ensures.touched

pub returns : goal.returns
returns c = all_end (IsTouched c.loop-path.names) c.args.mask.now c.loop-path.path-index c.loop-path-test.false c.loop-path.invariant
