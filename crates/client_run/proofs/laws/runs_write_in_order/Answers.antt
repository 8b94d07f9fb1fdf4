use Rattle.client_run.proofs.Ordering.{runs_write_in_order}
use Rattle.client_run.proofs.laws.runs_write_in_order.Goals as goal

pub returns : goal.returns
returns c = runs_write_in_order
