use Rattle.std.proofs.Common.{◌≡◌, map, take}
use Rattle.std.specs.List.{filter}
use Rattle.watch_aggregator.specs.declared.watched.Watched.{Watched}
use Rattle.watch_aggregator.specs.Points.{target_from}
use Rattle.watch_aggregator.proofs.point.targets_of.Given as goal

abbrev pub invariant-loop-one : goal.invariant-loop-one
invariant-loop-one l = l.targets.items ≡ map (target_from l.tokens) (filter (λ (w : Watched). w.counts) (take l.one-index l.watched))
