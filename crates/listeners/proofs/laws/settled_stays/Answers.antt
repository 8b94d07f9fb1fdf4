use Rattle.listeners.proofs.Settling.{settled_stays}
use Rattle.listeners.proofs.laws.settled_stays.Goals as goal

pub returns : goal.returns
returns c = settled_stays
