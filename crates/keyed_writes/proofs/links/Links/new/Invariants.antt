use Rattle.std.proofs.Common.{◌-◌, length}
use Rattle.keyed_writes.specs.Keyed.{AreLinked}
use Rattle.keyed_writes.proofs.links.Links.new.Given as goal

-- the writes from so many before the last on are linked
abbrev pub invariant-loop-passed : goal.invariant-loop-passed
invariant-loop-passed l = AreLinked (length l.writes - l.passed) l.writes l.firsts.entries l.nexts.items
