use Rattle.json_rpc.proofs.ReadBack.{printed_writes_read_back}
use Rattle.json_rpc.proofs.laws.printed_writes_read_back.Goals as goal

pub returns : goal.returns
returns c = printed_writes_read_back
