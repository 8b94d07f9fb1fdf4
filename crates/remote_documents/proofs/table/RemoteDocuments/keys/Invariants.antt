use Rattle.std.proofs.Common.{take}
use Rattle.remote_documents.proofs.Listing.{AreHeld}
use Rattle.remote_documents.proofs.table.RemoteDocuments.keys.Given as goal

abbrev pub invariant-loop-key : goal.invariant-loop-key
invariant-loop-key l = AreHeld l.self (take l.key-index l.key-items) l.keys
