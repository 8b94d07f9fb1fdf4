use Rattle.json_queries.proofs.Once.{query_once}
use Rattle.json_queries.proofs.laws.a_tree_spells_one_query.Goals as goal

pub returns : goal.returns
returns c = query_once
