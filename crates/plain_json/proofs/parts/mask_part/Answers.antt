use Rattle.plain_json.proofs.Gathered.{of_mask}
use Rattle.plain_json.proofs.parts.mask_part.Goals as goal

pub returns : goal.returns
returns c = of_mask _ _ (rw c.in-Some.is at c.in_ok-mask.ensures)
