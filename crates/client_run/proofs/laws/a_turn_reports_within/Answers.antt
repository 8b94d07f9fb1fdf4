use Rattle.client_run.proofs.Honest.{turn_reports}
use Rattle.client_run.proofs.laws.a_turn_reports_within.Goals as goal

pub returns : goal.returns
returns c = turn_reports
