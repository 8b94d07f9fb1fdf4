use Rattle.json_messages.proofs.Once.{answer_once}
use Rattle.json_messages.proofs.laws.a_tree_spells_one_answer.Goals as goal

pub returns : goal.returns
returns c = answer_once
