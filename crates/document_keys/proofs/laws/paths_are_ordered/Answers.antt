use Rattle.document_keys.proofs.Lawful.{ordered}
use Rattle.document_keys.proofs.laws.paths_are_ordered.Goals as goal

pub returns : goal.returns
returns c = ordered
