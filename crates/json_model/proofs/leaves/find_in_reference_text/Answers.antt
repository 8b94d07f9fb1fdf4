use Rattle.std.proofs.Common.{inl, refl}
use Rattle.json_model.specs.Leaves.{ReferenceFaults}
use Rattle.json_model.proofs.Kinded.{naming_fault}
use Rattle.json_model.proofs.Naming.{none}
use Rattle.json_model.proofs.leaves.find_in_reference_text.Goals as goal

pub returns : goal.returns
returns c = naming_fault _ _ _ _ c.told.result c.in-Err.ensures.fault c.told.ensures

pub returns-in-Ok : goal.returns-in-Ok
returns-in-Ok c = none (ReferenceFaults c.args.text.now) (inl ((c.in-Ok.field-0, c.in-Ok.ensures.name), refl))
