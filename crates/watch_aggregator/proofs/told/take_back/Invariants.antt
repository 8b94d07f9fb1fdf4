use Rattle.std.proofs.Common.{◌≡◌, map, take}
use Rattle.watch_aggregator.specs.Steps.{AreAscending}
use Rattle.watch_aggregator.specs.Told.{for_ids, take_back}
use Rattle.watch_aggregator.proofs.told.take_back.Given as goal

abbrev pub invariant-loop-id : goal.invariant-loop-id
invariant-loop-id l = AreAscending l.fn.watched.items → l.watched.items ≡ map (for_ids (take l.id-index l.ids) (take_back l.key)) l.fn.watched.items
