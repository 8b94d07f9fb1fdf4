use Rattle.document_keys.proofs.Lawful.{read_back}
use Rattle.document_keys.proofs.laws.field_paths_read_back.Goals as goal

pub returns : goal.returns
returns c = read_back
