use Rattle.document_keys.proofs.Lawful.{excluded}
use Rattle.document_keys.proofs.laws.key_faults_exclude.Goals as goal

pub returns : goal.returns
returns c = excluded
