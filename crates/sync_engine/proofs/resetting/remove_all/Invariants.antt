use Rattle.std.proofs.Common.{take}
use Rattle.sync_engine.specs.Telling.{RemovesAll}
use Rattle.sync_engine.proofs.resetting.remove_all.Given as goal

abbrev pub invariant-loop-id : goal.invariant-loop-id
invariant-loop-id l = record { removed : RemovesAll (take l.id-index l.ids) l.fn.listeners l.listeners }
