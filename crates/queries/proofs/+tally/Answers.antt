use Rattle.std.proofs.Common.{rules, arith}
use Rattle.queries.proofs.Nodes.{count_more}
use Rattle.queries.proofs.Sizes.{item_below}
use Rattle.queries.specs.Rules.{is_marked}
use Rattle.queries.proofs.+tally.Goals as goal

pub rules::tally_all-tally-requires : goal.rules::tally_all-tally-requires
rules::tally_all-tally-requires t c =
    let within = item_below c.deref-filter-items.result.now c.loop-filter.filter-index c.filter-item.result c.loop-filter-test.true in
    search rules

pub rules::tally_all-loop-filter-preserved : goal.rules::tally_all-loop-filter-preserved
rules::tally_all-loop-filter-preserved t c =
    let more = count_more (is_marked c.args.mark) c.deref-filter-items.result.now c.loop-filter.filter-index c.filter-item.result c.loop-filter-test.true c.filter-item.is in
    omega (arith, more)
