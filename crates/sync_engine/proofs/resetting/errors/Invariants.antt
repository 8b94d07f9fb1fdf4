use Rattle.std.proofs.Common.{◌≡◌, take, map as each}
use Rattle.sync_engine.specs.declared.out.Out.TheVariants.{Error}
use Rattle.sync_engine.proofs.resetting.errors.Given as goal

abbrev pub invariant-loop-id : goal.invariant-loop-id
invariant-loop-id l = record { told : l.outs.items ≡ each (λ id. Error id l.status) (take l.id-index l.ids) }
