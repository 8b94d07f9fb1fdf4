use Rattle.std.proofs.Common.{to_z-of_z}
use Rattle.plain_json.proofs.Single.{integer_read}
use Rattle.plain_json.proofs.scalars.integer_value.Goals as goal

pub returns : goal.returns
returns c = rw (to_z-of_z c.in-Some.ensures.fits) (integer_read _ _ c.in-Some.ensures)
