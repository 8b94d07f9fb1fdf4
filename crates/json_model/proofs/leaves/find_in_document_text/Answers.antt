use Rattle.json_model.proofs.Kinded.{naming_fault}
use Rattle.json_model.proofs.leaves.find_in_document_text.Goals as goal

pub returns : goal.returns
returns c = naming_fault _ _ _ _ c.told.result c.in-Err.ensures.fault c.told.ensures
