use Rattle.document_keys.proofs.Lawful.{one_fault}
use Rattle.document_keys.proofs.laws.faults_exclude.Goals as goal

pub returns : goal.returns
returns c = one_fault
