use Rattle.host_api.specs.Replayed.{disk_of}
use Rattle.host_api.proofs.Picks.{PickedTo}
use Rattle.host_api.proofs.replay.Replay.left.Given as goal

abbrev pub invariant-loop-i : goal.invariant-loop-i
invariant-loop-i l = PickedTo (disk_of l.self) l.fill l.i l.left.items
