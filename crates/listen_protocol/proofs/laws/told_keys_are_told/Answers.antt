use Rattle.listen_protocol.proofs.ToldLaw.{told_law}
use Rattle.listen_protocol.proofs.laws.told_keys_are_told.Goals as goal

pub returns : goal.returns
returns c = told_law
