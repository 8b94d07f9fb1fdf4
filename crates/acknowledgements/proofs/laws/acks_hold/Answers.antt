use Rattle.acknowledgements.proofs.Acks.{ack_laws}
use Rattle.acknowledgements.proofs.laws.acks_hold.Goals as goal

pub returns : goal.returns
returns c = ack_laws
