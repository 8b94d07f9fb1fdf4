use Rattle.std.proofs.Common.{pos}
use Rattle.json_model.proofs.Shorts.{up_to_none, up_to_many, up_to_is}
use Rattle.json_model.proofs.numbers.read_up_to.Goals as goal

pub returns-in_default : goal.returns-in_default
returns-in_default c = λ n is. (rw c.in_default.is at c.read_whole.ensures) (pos n) is.whole

pub returns-in_default-try_from : goal.returns-in_default-try_from
returns-in_default-try_from c = up_to_none _ _ _ c.ranges.most.fits (rw c.in-Some.is at c.read_whole.ensures) c.in_default-try_from.ensures

pub returns-then-count-most : goal.returns-then-count-most
returns-then-count-most c = up_to_many _ _ _ _ (rw c.in-Some.is at c.read_whole.ensures) c.in-Ok.ensures.1 c.if-count-most.true

pub returns : goal.returns
returns c = up_to_is _ _ _ _ (rw c.in-Some.is at c.read_whole.ensures) c.in-Ok.ensures.0 c.in-Ok.ensures.1 c.if-count-most.false
