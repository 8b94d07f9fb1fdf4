use Rattle.std.proofs.Common.{◌<◌}
use Rattle.outcome_codec.proofs.Adjacents.{Adjacent}
use Rattle.outcome_codec.proofs.ascending.ids_ascend.Given as goal

abbrev pub invariant-loop-i : goal.invariant-loop-i
invariant-loop-i l = Adjacent ◌<◌ l.ids l.i
