use Rattle.document_keys.proofs.Lawful.{named_once}
use Rattle.document_keys.proofs.laws.names_one_path.Goals as goal

pub returns : goal.returns
returns c = named_once
