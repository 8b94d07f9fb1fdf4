use Rattle.json_rpc.proofs.Once.{write_once}
use Rattle.json_rpc.proofs.laws.a_tree_spells_one_write.Goals as goal

pub returns : goal.returns
returns c = write_once
