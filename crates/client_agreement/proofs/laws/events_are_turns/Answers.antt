use Rattle.client_agreement.proofs.Turns.{events_are_turns}
use Rattle.client_agreement.proofs.laws.events_are_turns.Goals as goal

pub returns : goal.returns
returns c = events_are_turns
