use Rattle.acknowledgements.proofs.Acks.{greatest_laws}
use Rattle.acknowledgements.proofs.laws.greatest_holds.Goals as goal

pub returns : goal.returns
returns c = greatest_laws
