use Rattle.client_agreement.proofs.LimboSound.{limbo_listens_sound}
use Rattle.client_agreement.proofs.laws.limbo_listens_stay_sound.Goals as goal

pub returns : goal.returns
returns c = limbo_listens_sound
