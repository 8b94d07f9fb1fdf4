use Rattle.client_agreement.proofs.Tokens.{tokens_stay_known}
use Rattle.client_agreement.proofs.laws.tokens_stay_known.Goals as goal

pub returns : goal.returns
returns c = tokens_stay_known
