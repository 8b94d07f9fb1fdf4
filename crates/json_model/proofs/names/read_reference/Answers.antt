use Rattle.json_model.proofs.Naming.{under_fault}
use Rattle.json_model.proofs.names.read_reference.Goals as goal

pub returns-in-Err-clause-fault : goal.returns-in-Err-clause-fault
returns-in-Err-clause-fault c = let under = rw c.in-Some.is at c.in_ok-root.ensures in under_fault _ _ _ under.0 under.1 c.in-Err.ensures.fault
