use Rattle.std.proofs.Common.{◌≡◌, pos, take, map as each}
use Rattle.sync_engine.proofs.dropping.as_targets.Given as goal

abbrev pub invariant-loop-row : goal.invariant-loop-row
invariant-loop-row l = record { ids : l.ids.items ≡ each pos (take l.row-index l.rows) }
