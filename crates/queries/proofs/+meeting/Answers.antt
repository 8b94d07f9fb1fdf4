use Rattle.std.proofs.Common.{rules, arith, refl}
use Rattle.document_keys.proofs.Fields.{walk_more, walk_whole}
use Rattle.queries.specs.Found.{standing_at}
use Rattle.queries.specs.Holding.{Meets}
use Rattle.queries.proofs.Meeting.{all_from, each_at, one_at, none_from}
use Rattle.queries.proofs.Sizes.{item_below}
use Rattle.queries.proofs.+meeting.Goals as goal

pub holding::are_met_by-is_met_by-requires : goal.holding::are_met_by-is_met_by-requires
holding::are_met_by-is_met_by-requires t c =
    let within = item_below c.deref-filter-items.result.now c.loop-filter.filter-index c.filter-item.result c.loop-filter-test.true in
    search rules

pub holding::is_one_met_by-is_met_by-requires : goal.holding::is_one_met_by-is_met_by-requires
holding::is_one_met_by-is_met_by-requires t c =
    let within = item_below c.deref-filter-items.result.now c.loop-filter.filter-index c.filter-item.result c.loop-filter-test.true in
    search rules

pub holding::are_met_by-returns-then-not-is_met_by : goal.holding::are_met_by-returns-then-not-is_met_by
holding::are_met_by-returns-then-not-is_met_by t c =
    rw (← c.deref-filter-items.ensures.value)
    (λ no. cc, λ all. let met = c.is_met_by.ensures.1 (each_at (standing_at c.args.candidate.now) _ _ _ c.loop-filter-test.true c.filter-item.is all) in let missed = c.if-not-is_met_by.true in cc)

pub holding::are_met_by-loop-filter-preserved : goal.holding::are_met_by-loop-filter-preserved
holding::are_met_by-loop-filter-preserved t c =
    walk_more (Meets (standing_at c.args.candidate.now)) _ _ _ (omega arith) c.filter-item.is c.loop-filter.invariant (c.is_met_by.ensures.0 c.if-not-is_met_by.false)

pub holding::are_met_by-returns : goal.holding::are_met_by-returns
holding::are_met_by-returns t c =
    rw (← c.deref-filter-items.ensures.value)
    (λ yes. all_from (standing_at c.args.candidate.now) _ (walk_whole (Meets (standing_at c.args.candidate.now)) _ _ (omega arith) c.loop-filter.invariant), λ all. refl)

pub holding::is_one_met_by-returns-then-is_met_by : goal.holding::is_one_met_by-returns-then-is_met_by
holding::is_one_met_by-returns-then-is_met_by t c =
    rw (← c.deref-filter-items.ensures.value)
    (λ yes. one_at (standing_at c.args.candidate.now) _ _ _ c.loop-filter-test.true c.filter-item.is (c.is_met_by.ensures.0 c.if-is_met_by.true), λ one. refl)

pub holding::is_one_met_by-loop-filter-preserved : goal.holding::is_one_met_by-loop-filter-preserved
holding::is_one_met_by-loop-filter-preserved t c =
    walk_more (λ f. Meets (standing_at c.args.candidate.now) f → ⊥) _ _ _ (omega arith) c.filter-item.is c.loop-filter.invariant
    (λ met. let yes = c.is_met_by.ensures.1 met in let no = c.if-is_met_by.false in cc (yes, no))

pub holding::is_one_met_by-returns : goal.holding::is_one_met_by-returns
holding::is_one_met_by-returns t c =
    rw (← c.deref-filter-items.ensures.value)
    (λ no. cc, λ one. absurd (none_from (standing_at c.args.candidate.now) _ (walk_whole (λ f. Meets (standing_at c.args.candidate.now) f → ⊥) _ _ (omega arith) c.loop-filter.invariant) one))
