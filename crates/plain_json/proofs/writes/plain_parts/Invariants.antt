use Rattle.std.proofs.Common.{take}
use Rattle.plain_json.proofs.Gathered.{PartsSoFar}
use Rattle.plain_json.proofs.writes.plain_parts.Given as goal

abbrev pub invariant-loop-member : goal.invariant-loop-member
invariant-loop-member l = PartsSoFar l.setting (take l.member-index l.member-items) l.parts
