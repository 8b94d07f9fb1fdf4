use Rattle.local_store.proofs.Replayed.{find_once}
use Rattle.local_store.proofs.laws.two_files_find_once.Goals as goal

pub returns : goal.returns
returns c = find_once
