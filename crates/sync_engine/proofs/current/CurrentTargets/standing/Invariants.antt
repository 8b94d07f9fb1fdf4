use Rattle.std.proofs.Common.{◌≡◌, drop}
use Rattle.sync_engine.specs.Standing.{standing_in}
use Rattle.sync_engine.proofs.current.CurrentTargets.standing.Given as goal

abbrev pub invariant-loop-current : goal.invariant-loop-current
invariant-loop-current l = record { rest : standing_in l.self.targets.items l.target ≡ standing_in (drop l.current-index l.current-items) l.target }
