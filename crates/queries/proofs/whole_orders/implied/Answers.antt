use Rattle.std.proofs.Common.{Option, Some, [], sym, subst}
use Rattle.queries.specs.Filters.{FilterData}
use Rattle.queries.specs.Orders.{Gathers, all_nodes}
use Rattle.queries.proofs.whole_orders.implied.Goals as goal

pub returns-clause-members : goal.returns-clause-members
returns-clause-members c =
    let from_none = subst (λ xs. Gathers c.args.explicit.now (all_nodes (Some c.in-Some.filter)) xs c.gather.new.paths) c.new-paths.ensures c.in_ok-gather.ensures in
    subst (λ (o : Option FilterData). Gathers c.args.explicit.now (all_nodes o) [] c.gather.new.paths) (sym c.in-Some.is) from_none
