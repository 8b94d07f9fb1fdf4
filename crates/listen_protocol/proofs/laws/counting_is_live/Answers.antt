use Rattle.listen_protocol.proofs.Ids.{counting_law}
use Rattle.listen_protocol.proofs.laws.counting_is_live.Goals as goal

pub returns : goal.returns
returns c = counting_law
