use Rattle.listeners.proofs.Settling.{settled_stays_touched}
use Rattle.listeners.proofs.laws.settled_stays_touched.Goals as goal

pub returns : goal.returns
returns c = settled_stays_touched
