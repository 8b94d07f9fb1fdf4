use Rattle.std.proofs.Common.{IsTrue, refl, subst, arith, rules}
use Rattle.document_keys.specs.Order.{PathBefore}
use Rattle.document_keys.proofs.Lawful.{ordered}
use Rattle.outcome_codec.proofs.Adjacents.{one_pair, pairs_from}
use Rattle.outcome_codec.proofs.ascending.entries_ascend.Goals as goal

pub returns-then-not-is_before : goal.returns-then-not-is_before
returns-then-not-is_before c = (
  λ never. search rules,
  λ all. subst IsTrue c.if-not-is_before.true (c.is_before.ensures.1 (one_pair (λ a b. PathBefore a.key b.key) c.args.entries.now c.loop-i.i c.index-entries-i.result c.index-entries-i-in-loop-i.result (omega (arith, c.loop-i-test.true)) (omega arith) c.index-entries-i.is c.index-entries-i-in-loop-i.is all)),
)

pub returns : goal.returns
returns c = (λ given. pairs_from (λ a b. PathBefore a.key b.key) (λ a b d first second. ordered.transitive a.key b.key d.key first second) c.args.entries.now (λ k d below. c.loop-i.invariant k d (omega arith)), λ all. refl)
