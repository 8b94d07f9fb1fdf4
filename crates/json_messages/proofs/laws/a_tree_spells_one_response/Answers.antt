use Rattle.json_messages.proofs.Once.{response_once}
use Rattle.json_messages.proofs.laws.a_tree_spells_one_response.Goals as goal

pub returns : goal.returns
returns c = response_once
