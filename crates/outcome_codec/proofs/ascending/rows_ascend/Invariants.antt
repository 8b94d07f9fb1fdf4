use Rattle.std.proofs.Common.{◌<◌}
use Rattle.outcome_codec.proofs.Adjacents.{Adjacent}
use Rattle.outcome_codec.proofs.ascending.rows_ascend.Given as goal

abbrev pub invariant-loop-i : goal.invariant-loop-i
invariant-loop-i l = Adjacent (λ a b. a.id < b.id) l.rows l.i
