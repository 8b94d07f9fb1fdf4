use Rattle.std.proofs.Common.{◌∙◌, ◌++◌, [], map, option_to_list, append_assoc, ap, subst}
use Rattle.std.proofs.lemmas.Result.{IfOk-weaker}
use Rattle.queries.specs.Orders.{Gathers, IsNameOrder, all_nodes, last_direction, order_by}
use Rattle.queries.proofs.Gathered.{whole_from}
use Rattle.queries.proofs.whole_orders.whole_orders.Goals as goal

pub returns : goal.returns
returns c =
    let d = c.last_direction-descending.result in
    let members = subst (λ os. Gathers os (all_nodes c.args.filter.now) [] c.in_ok-added.added) c.as_slice-2.ensures c.in_ok-added.ensures.members in
    let last = subst (λ os. IsNameOrder os d c.in_ok-last.last) c.as_slice-3.ensures (c.in_ok-last.ensures {u = tt}) in
    let direction = c.last_direction-descending.ensures ∙ ap last_direction c.as_slice.ensures in
    let joined = c.in_ok-orders.ensures {u = tt} ∙ ap (λ paths. c.args.explicit ++ map (order_by d) paths) c.as_slice-4.ensures.paths in
    IfOk-weaker c.end_with.result _ _ (λ orders are. whole_from c.args.explicit c.args.filter.now orders c.in_ok-added.added d c.in_ok-last.last members c.in_ok-added.ensures.ascending last direction (are ∙ ap (λ os. os ++ option_to_list c.in_ok-last.last) joined ∙ append_assoc c.args.explicit (map (order_by d) c.in_ok-added.added) (option_to_list c.in_ok-last.last))) c.end_with.ensures
