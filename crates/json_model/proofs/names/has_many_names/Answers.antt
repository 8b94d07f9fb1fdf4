use Rattle.json_model.proofs.OneLeaf.{many_names}
use Rattle.json_model.proofs.names.has_many_names.Goals as goal

pub returns-in-Some : goal.returns-in-Some
returns-in-Some c = many_names _ _ (rw c.in-Some.is at c.in_ok-count.ensures)
