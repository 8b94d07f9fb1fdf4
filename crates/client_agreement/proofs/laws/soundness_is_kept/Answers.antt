use Rattle.client_agreement.proofs.Runs.{soundness_kept}
use Rattle.client_agreement.proofs.laws.soundness_is_kept.Goals as goal

pub returns : goal.returns
returns c = soundness_kept
