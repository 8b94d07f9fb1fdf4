use Rattle.client_agreement.proofs.Commits.{commits_stay_sound}
use Rattle.client_agreement.proofs.Runs.{states_stay_sound}
use Rattle.client_agreement.proofs.laws.states_stay_sound.Goals as goal

pub returns-clause-behind : goal.returns-clause-behind
returns-clause-behind c = states_stay_sound

pub returns-clause-between : goal.returns-clause-between
returns-clause-between c = commits_stay_sound
