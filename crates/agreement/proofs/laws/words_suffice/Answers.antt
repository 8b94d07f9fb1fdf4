use Rattle.agreement.proofs.Words.{words_follow}
use Rattle.agreement.proofs.laws.words_suffice.Goals as goal

pub returns : goal.returns
returns c = words_follow
