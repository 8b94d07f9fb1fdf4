use Rattle.document_keys.proofs.Order.{ranks_from}
use Rattle.document_keys.proofs.key.DocumentKey.compare.Goals as goal

pub returns : goal.returns
returns c = ranks_from _ _ _ c.cmp.ensures
