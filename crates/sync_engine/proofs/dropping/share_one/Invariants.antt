use Rattle.std.proofs.Common.{take}
use Rattle.sync_engine.specs.Dropping.{ShareOne}
use Rattle.sync_engine.proofs.dropping.share_one.Given as goal

abbrev pub invariant-loop-key : goal.invariant-loop-key
invariant-loop-key l = record { none : ShareOne (take l.key-index l.key-items) l.others → ⊥ }
