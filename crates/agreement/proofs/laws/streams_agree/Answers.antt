use Rattle.agreement.proofs.StreamsTokens.{streams_agree}
use Rattle.agreement.proofs.laws.streams_agree.Goals as goal

pub returns : goal.returns
returns c = streams_agree
