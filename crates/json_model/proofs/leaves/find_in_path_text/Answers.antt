use Rattle.std.proofs.Common.{inl, refl}
use Rattle.json_model.specs.Leaves.{PathFaults, few}
use Rattle.json_model.proofs.Fine.{not_many}
use Rattle.json_model.proofs.Kinded.{found_fault}
use Rattle.json_model.proofs.Naming.{none}
use Rattle.json_model.proofs.leaves.find_in_path_text.Goals as goal

pub returns : goal.returns
returns c = found_fault _ _ c.told.result c.in-Err.ensures.fault c.told.ensures

pub returns-in-Ok : goal.returns-in-Ok
returns-in-Ok c = none (PathFaults c.args.text.now) (few (not_many _ _ c.in-Ok.ensures.path.spelled c.in-Ok.ensures.path.few) (inl ((c.in-Ok.field-0, c.in-Ok.ensures.path), refl)))
