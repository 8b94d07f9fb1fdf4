use Rattle.json_model.proofs.Shorts.{short_of, no_short}
use Rattle.json_model.proofs.numbers.read_short.Goals as goal

pub returns-in_default : goal.returns-in_default
returns-in_default c = λ z is. (rw c.in_default.is at c.read_whole.ensures) z is.whole

pub returns-in-Ok : goal.returns-in-Ok
returns-in-Ok c = short_of _ _ _ (rw c.in-Some.is at c.read_whole.ensures) c.in-Ok.ensures.0 c.in-Ok.ensures.1

pub returns-in-Err : goal.returns-in-Err
returns-in-Err c = no_short _ _ (rw c.in-Some.is at c.read_whole.ensures) c.in-Err.ensures
