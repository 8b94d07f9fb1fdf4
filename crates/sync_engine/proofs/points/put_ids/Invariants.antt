use Rattle.std.proofs.Common.{◌≡◌, take}
use Rattle.sync_engine.proofs.Moved.{HasAll}
use Rattle.sync_engine.proofs.points.put_ids.Given as goal

abbrev pub invariant-loop-id : goal.invariant-loop-id
invariant-loop-id l = HasAll (λ x id. x ≡ id) (take l.id-index l.ids) l.initial.set l.set
