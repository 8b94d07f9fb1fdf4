use Rattle.mutations.proofs.Changing.{remove_laws}
use Rattle.mutations.proofs.laws.removes_hold.Goals as goal

pub returns : goal.returns
returns c = remove_laws
