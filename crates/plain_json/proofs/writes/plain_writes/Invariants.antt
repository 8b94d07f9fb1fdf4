use Rattle.std.proofs.Common.{take}
use Rattle.plain_json.proofs.Updates.{WritesSoFar}
use Rattle.plain_json.proofs.writes.plain_writes.Given as goal

abbrev pub invariant-loop-item : goal.invariant-loop-item
invariant-loop-item l = WritesSoFar l.setting (take l.item-index l.item-items) l.writes.items
