use Rattle.mutations.proofs.Masking.{mask_laws}
use Rattle.mutations.proofs.laws.masks_hold.Goals as goal

pub returns : goal.returns
returns c = mask_laws
