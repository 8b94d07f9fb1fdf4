use Rattle.local_store.proofs.Opened.{refused_is_none}
use Rattle.local_store.proofs.laws.refused_files_are_no_store.Goals as goal

pub returns : goal.returns
returns c = refused_is_none
