use Rattle.agreement.proofs.Whole.{first_sync}
use Rattle.agreement.proofs.laws.first_sync_is_honest.Goals as goal

pub returns : goal.returns
returns c = first_sync
