use Rattle.listen_protocol.proofs.LiveLaw.{live_law}
use Rattle.listen_protocol.proofs.laws.live_is_counted.Goals as goal

pub returns : goal.returns
returns c = live_law
