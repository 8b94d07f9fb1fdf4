use Rattle.document_keys.proofs.Parts.{no_root, after_root}
use Rattle.document_keys.proofs.path.after_documents.Goals as goal

pub returns-in_err-path : goal.returns-in_err-path
returns-in_err-path c = rw c.from_residual.ensures (no_root _ _ _ c.as_str.ensures.text c.in_err-path.ensures)

pub returns : goal.returns
returns c = after_root _ _ _ _ _ c.as_str.ensures.text c.in_ok-path.ensures c.after-2.ensures
