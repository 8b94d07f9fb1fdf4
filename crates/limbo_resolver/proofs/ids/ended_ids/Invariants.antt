use Rattle.std.proofs.Common.{◌≡◌, take, zip}
use Rattle.limbo_resolver.specs.Limbo.{ended}
use Rattle.limbo_resolver.proofs.ids.ended_ids.Given as goal

abbrev pub invariant-loop-i : goal.invariant-loop-i
invariant-loop-i l = l.gone.items ≡ ended l.wanted (take l.i (zip l.ids l.keys))
