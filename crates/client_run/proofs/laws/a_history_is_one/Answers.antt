use Rattle.client_run.proofs.Histories.{a_history_is_one}
use Rattle.client_run.proofs.laws.a_history_is_one.Goals as goal

pub returns : goal.returns
returns c = a_history_is_one
