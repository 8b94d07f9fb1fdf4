use Rattle.client_run.proofs.Agreeing.{runs_chain}
use Rattle.client_run.proofs.laws.runs_chain.Goals as goal

pub returns : goal.returns
returns c = runs_chain
