use Rattle.value_model.proofs.Lawful.{pending_laws}
use Rattle.value_model.proofs.laws.pending_times_stand.Goals as goal

pub returns : goal.returns
returns c = pending_laws
