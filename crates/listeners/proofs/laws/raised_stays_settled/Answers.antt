use Rattle.listeners.proofs.Settling.{raised_stays_settled}
use Rattle.listeners.proofs.laws.raised_stays_settled.Goals as goal

pub returns : goal.returns
returns c = raised_stays_settled
