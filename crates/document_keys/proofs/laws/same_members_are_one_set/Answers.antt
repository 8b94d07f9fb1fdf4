use Rattle.document_keys.proofs.Exact.{same_keys}
use Rattle.document_keys.proofs.laws.same_members_are_one_set.Goals as goal

pub returns : goal.returns
returns c = same_keys
