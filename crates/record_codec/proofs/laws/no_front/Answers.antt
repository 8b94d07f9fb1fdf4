use Rattle.record_codec.proofs.CommitForms.{unique_commit}
use Rattle.record_codec.proofs.laws.no_front.Goals as goal

pub returns : goal.returns
returns c = unique_commit
