use Rattle.client_agreement.proofs.FirstSync.{first_sync}
use Rattle.client_agreement.proofs.laws.first_sync_is_honest.Goals as goal

pub returns : goal.returns
returns c = first_sync
