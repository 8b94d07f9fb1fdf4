use Rattle.limbo_resolver.proofs.Sound.{stay_sound}
use Rattle.limbo_resolver.proofs.laws.listens_stay_sound.Goals as goal

pub returns : goal.returns
returns c = stay_sound
