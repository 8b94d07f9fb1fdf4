use Rattle.std.proofs.Common.{rules}
use Rattle.std.specs.Ordering.{int_cmp}
use Rattle.std.proofs.lemmas.Fn.{always_returns_same}
use Rattle.limbo_resolver.proofs.Order.{searched}
use Rattle.limbo_resolver.proofs.ids.place.Goals as goal

pub returns-clause-place : goal.returns-clause-place
returns-clause-place c = λ ascending. searched c.args.ids.now c.args.id.now c.binary_search_by.result ascending c.binary_search_by.ensures.bound
    (c.binary_search_by.ensures.position (λ y. int_cmp y c.args.id.now) (always_returns_same _ _ _ (λ a r f called. search rules)))
