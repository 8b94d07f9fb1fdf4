use Rattle.std.proofs.Common.{rules, subst}
use Rattle.std.proofs.lemmas.Fn.{always_returns_same}
use Rattle.queries.specs.Checked.{IsChecked}
use Rattle.queries.proofs.Sorting.{test, strict_weak, ranks_as_test, sorted_rows}
use Rattle.queries.proofs.query.Query.sort.Goals as goal

pub returns-clause-sorted : goal.returns-clause-sorted
returns-clause-sorted c = λ root are.
    sorted_rows c.args.self.now root c.args.rows.now c.sort_unstable_by.new.self (subst IsChecked c.self.view_is c.self.invariant) c.sort_unstable_by.ensures.permutation are
    (c.sort_unstable_by.ensures.sorted (test c.args.self.now root) (strict_weak c.args.self.now root)
    (always_returns_same _ _ _ (λ a r f k. (ranks_as_test c.args.self.now root a.0.now a.1.0.now r (search rules), search rules))))
