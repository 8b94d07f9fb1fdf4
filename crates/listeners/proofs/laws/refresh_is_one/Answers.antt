use Rattle.listeners.proofs.Outcomes.{refresh_is_one}
use Rattle.listeners.proofs.laws.refresh_is_one.Goals as goal

pub returns : goal.returns
returns c = refresh_is_one
