use Rattle.json_messages.proofs.Once.{status_once}
use Rattle.json_messages.proofs.laws.a_tree_spells_one_status.Goals as goal

pub returns : goal.returns
returns c = status_once
