use Rattle.std.proofs.Common.{take}
use Rattle.sync_engine.specs.Telling.{ForgetsAll}
use Rattle.sync_engine.proofs.resetting.forget_all.Given as goal

abbrev pub invariant-loop-id : goal.invariant-loop-id
invariant-loop-id l = record { forgotten : ForgetsAll (take l.id-index l.ids) l.fn.limbo l.limbo }
