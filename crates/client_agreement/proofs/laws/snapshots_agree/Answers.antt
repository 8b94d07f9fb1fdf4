use Rattle.client_agreement.proofs.Runs.{snapshots_agree}
use Rattle.client_agreement.proofs.laws.snapshots_agree.Goals as goal

pub returns : goal.returns
returns c = snapshots_agree
