use Rattle.mutations.proofs.Changing.{change_laws}
use Rattle.mutations.proofs.laws.changes_hold.Goals as goal

pub returns : goal.returns
returns c = change_laws
