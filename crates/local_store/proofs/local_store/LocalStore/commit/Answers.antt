use Rattle.local_store.proofs.Committed.{stands, nothing_moves}
use Rattle.local_store.proofs.local_store.LocalStore.commit.Goals as goal

pub returns-in_err-frame-clause-files : goal.returns-in_err-frame-clause-files
returns-in_err-frame-clause-files g c = λ told whole. stands c.args.self.now.place whole (λ at same. nothing_moves _ (c.requires.stored told at same))
