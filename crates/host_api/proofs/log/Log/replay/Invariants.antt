use Rattle.std.proofs.Common.{◌≡◌}
use Rattle.host_api.specs.Disk.{fresh}
use Rattle.host_api.specs.Past.{first}
use Rattle.host_api.specs.Replayed.{disk_of}
use Rattle.host_api.proofs.Notes.{replayed}
use Rattle.host_api.proofs.log.Log.replay.Given as goal

abbrev pub invariant-loop-entry : goal.invariant-loop-entry
invariant-loop-entry l = disk_of l.replay ≡ replayed l.file (fresh (first l.file l.self)) l.calls l.entry-index l.entry-items
