use Rattle.client_agreement.proofs.Touched.{start_sound}
use Rattle.client_agreement.proofs.laws.start_is_sound.Goals as goal

pub returns : goal.returns
returns c = start_sound
