use Rattle.durable_state.proofs.Rising.{entries_rise}
use Rattle.durable_state.proofs.laws.entries_rise.Goals as goal

pub returns : goal.returns
returns c = entries_rise
