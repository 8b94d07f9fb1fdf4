use Rattle.std.proofs.Common.{◌≡◌, false, take}
use Rattle.std.specs.List.{list_any}
use Rattle.watch_aggregator.specs.Buffer.{counts_in}
use Rattle.watch_aggregator.specs.Steps.{AreAscending}
use Rattle.watch_aggregator.proofs.buffer.counting.Given as goal

abbrev pub invariant-loop-id : goal.invariant-loop-id
invariant-loop-id l = AreAscending l.watched → list_any (counts_in l.watched) (take l.id-index l.ids) ≡ false
