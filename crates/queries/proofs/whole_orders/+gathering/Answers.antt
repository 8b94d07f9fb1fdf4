use Rattle.std.proofs.Common.{◌∙◌, ◌++◌, [], take, sym, ap, arith, rules, subst}
use Rattle.std.proofs.lemmas.List.{append-nil, take_all}
use Rattle.std.proofs.lemmas.Result.{on_ok_weaker}
use Rattle.queries.specs.Filters.{filters_of, nodes, nodes_in}
use Rattle.queries.specs.Orders.{Gathers}
use Rattle.queries.specs.View.{kind_data}
use Rattle.queries.proofs.Gathered.{gathers_composite, gathers_leaf, gathers_then, leaf_nodes}
use Rattle.queries.proofs.Nodes.{nodes_more}
use Rattle.queries.proofs.Sizes.{item_below}
use Rattle.queries.proofs.whole_orders.+gathering.Goals as goal

pub gather-returns-in-Composite : goal.gather-returns-in-Composite
gather-returns-in-Composite t c =
    let kind = sym (ap kind_data c.in-Composite.is) ∙ c.filter.view_is in
    on_ok_weaker c.gather_all.result (λ inside. subst (λ f. Gathers c.args.explicit.now (nodes f) c.args.paths.now c.gather_all.new.paths) kind (gathers_composite c.args.explicit.now c.in-Composite.op c.in-Composite.filters.items c.args.paths.now c.gather_all.new.paths inside)) c.gather_all.ensures

pub gather-returns-in-Some : goal.gather-returns-in-Some
gather-returns-in-Some t c =
    let told = c.in-Some.ensures {u = tt} in
    on_ok_weaker c.imply.result (λ implied. subst (λ fs. Gathers c.args.explicit.now fs c.args.paths.now c.imply.new.paths) (sym (leaf_nodes c.args.filter.now told.0)) (gathers_leaf c.args.explicit.now c.args.filter.now c.in-Some.path.now c.args.paths.now c.imply.new.paths told.0 told.1 implied)) c.imply.ensures

pub gather_all-gather-requires : goal.gather_all-gather-requires
gather_all-gather-requires t c =
    let within = item_below c.deref-filter-items.result.now c.loop-filter.filter-index c.filter-item.result c.loop-filter-test.true in
    search rules

pub gather_all-loop-filter-preserved : goal.gather_all-loop-filter-preserved
gather_all-loop-filter-preserved t c =
    let explicit = c.args.explicit.now in
    let items = c.deref-filter-items.result.now in
    let i = c.loop-filter.filter-index in
    let one = subst (λ fs. Gathers explicit fs c.loop-filter.paths c.gather.new.paths) (sym (append-nil (nodes c.filter-item.result))) c.in_ok-gather.ensures in
    subst (λ fs. Gathers explicit fs c.args.paths.now c.gather.new.paths) (sym (nodes_more items i c.filter-item.result c.loop-filter-test.true c.filter-item.is))
    (gathers_then explicit (nodes_in (filters_of (take i items))) (nodes c.filter-item.result ++ []) c.args.paths.now c.loop-filter.paths c.gather.new.paths c.loop-filter.invariant one)

pub gather_all-returns : goal.gather_all-returns
gather_all-returns t c =
    let all = take_all c.loop-filter.filter-index c.deref-filter-items.result.now (omega arith) ∙ c.deref-filter-items.ensures.value in
    subst (λ fs. Gathers c.args.explicit.now (nodes_in (filters_of fs)) c.args.paths.now c.loop-filter.paths) all c.loop-filter.invariant
