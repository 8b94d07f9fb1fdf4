use Rattle.agreement.proofs.Ticks.{ticks_ordered}
use Rattle.agreement.proofs.laws.ticks_are_ordered.Goals as goal

pub returns : goal.returns
returns c = ticks_ordered
