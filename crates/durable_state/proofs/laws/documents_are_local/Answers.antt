use Rattle.durable_state.proofs.Local.{documents_local}
use Rattle.durable_state.proofs.laws.documents_are_local.Goals as goal

pub returns : goal.returns
returns c = documents_local
