use Rattle.mutations.proofs.Changing.{append_laws}
use Rattle.mutations.proofs.laws.appends_hold.Goals as goal

pub returns : goal.returns
returns c = append_laws
