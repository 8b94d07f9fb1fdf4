use Rattle.mutations.proofs.Effects.{one_effect}
use Rattle.mutations.proofs.laws.effects_are_one.Goals as goal

pub returns : goal.returns
returns c = one_effect
