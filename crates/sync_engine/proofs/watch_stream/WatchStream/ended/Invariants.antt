use Rattle.std.proofs.Common.{take}
use Rattle.sync_engine.proofs.Blanked.{EndsSome}
use Rattle.sync_engine.proofs.watch_stream.WatchStream.ended.Given as goal

abbrev pub invariant-loop-target : goal.invariant-loop-target
invariant-loop-target l = record { ends : EndsSome (take l.target-index l.targets) l.fn.self l.self }
