use Rattle.std.proofs.Common.{refl}
use Rattle.json_model.proofs.Naming.{only}
use Rattle.json_model.proofs.Kinded.{lone_fault}
use Rattle.json_model.proofs.leaves.find_flat.Goals as goal

pub returns-in-Object : goal.returns-in-Object
returns-in-Object c = rw c.in-Object.is (lone_fault _ c.bad_shape_unless.result c.bad_shape_unless.ensures)

pub returns-in-Series : goal.returns-in-Series
returns-in-Series c = rw c.in-Series.is (lone_fault _ c.bad_shape_unless-in-Series.result c.bad_shape_unless-in-Series.ensures)

pub returns-in_ok-from_str-in-Unsupported : goal.returns-in_ok-from_str-in-Unsupported
returns-in_ok-from_str-in-Unsupported c = rw (c.in-Unsupported.is, c.in_ok-from_str-in-Unsupported.ensures) (only _ _ refl)
