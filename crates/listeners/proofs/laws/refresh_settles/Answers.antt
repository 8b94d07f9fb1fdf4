use Rattle.listeners.proofs.Settling.{refresh_settles}
use Rattle.listeners.proofs.laws.refresh_settles.Goals as goal

pub returns : goal.returns
returns c = refresh_settles
