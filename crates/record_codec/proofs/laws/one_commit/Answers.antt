use Rattle.record_codec.proofs.Whole.{one_value}
use Rattle.record_codec.proofs.laws.one_commit.Goals as goal

pub returns : goal.returns
returns c = one_value
