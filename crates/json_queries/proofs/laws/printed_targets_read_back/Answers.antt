use Rattle.json_queries.proofs.ReadBack.{printed_targets_read_back}
use Rattle.json_queries.proofs.laws.printed_targets_read_back.Goals as goal

pub returns : goal.returns
returns c = printed_targets_read_back
