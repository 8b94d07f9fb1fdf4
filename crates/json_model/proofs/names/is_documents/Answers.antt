use Rattle.document_keys.proofs.Collections.{is_documents-after, is_documents-not}
use Rattle.json_model.proofs.names.is_documents.Goals as goal

pub returns-in-Some : goal.returns-in-Some
returns-in-Some c = is_documents-after _ _ _ _ _ c.as_str.ensures.text c.in-Some.ensures c.eq.ensures

pub returns-in-None : goal.returns-in-None
returns-in-None c = is_documents-not _ _ _ c.as_str.ensures.text c.in-None.ensures
