use Rattle.std.proofs.Common.{take}
use Rattle.sync_engine.specs.Telling.{RefusesAll}
use Rattle.sync_engine.proofs.resetting.refuse_all.Given as goal

abbrev pub invariant-loop-id : goal.invariant-loop-id
invariant-loop-id l = record { refused : RefusesAll (take l.id-index l.ids) l.fn.limbo l.limbo }
