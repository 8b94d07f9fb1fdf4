use Rattle.json_messages.proofs.Rootless.{clean_moved, fault_moved}
use Rattle.json_messages.proofs.status.read_status.Goals as goal

pub returns-clause-clean : goal.returns-clause-clean
returns-clause-clean c = clean_moved _ _ _ c.read_under.result c.read_under.ensures.clean

pub returns-clause-fault : goal.returns-clause-fault
returns-clause-fault c = fault_moved _ _ _ c.read_under.result c.read_under.ensures.fault
