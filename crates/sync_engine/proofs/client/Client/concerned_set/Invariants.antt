use Rattle.std.proofs.Common.{take}
use Rattle.sync_engine.proofs.Gathering.{HasConcerned}
use Rattle.sync_engine.proofs.client.Client.concerned_set.Given as goal

abbrev pub invariant-loop-write : goal.invariant-loop-write
invariant-loop-write l = HasConcerned l.self.listeners (take l.write-index l.writes) l.set
