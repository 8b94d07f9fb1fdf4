use Rattle.document_keys.specs.Order.{PathBefore}
use Rattle.outcome_codec.proofs.Adjacents.{Adjacent}
use Rattle.outcome_codec.proofs.ascending.entries_ascend.Given as goal

abbrev pub invariant-loop-i : goal.invariant-loop-i
invariant-loop-i l = Adjacent (λ a b. PathBefore a.key b.key) l.entries l.i
