use Rattle.std.proofs.Common.{refl, subst, sym}
use Rattle.std.proofs.lemmas.List.{take_all}
use Rattle.std.proofs.lemmas.List.Elements.{All-more}
use Rattle.durable_state.specs.Rows.{HasRow}
use Rattle.outcome_codec.specs.declared.parts.PointRow.{PointRow}
use Rattle.durable_state.proofs.fitting.are_known.Goals as goal

pub loop-row-preserved : goal.loop-row-preserved
loop-row-preserved c = All-more (λ (r : PointRow). HasRow c.args.targets.now.rows r.id) c.args.rows.now c.loop-row.row-index c.row-item.result c.loop-row-test.true c.loop-row.invariant (subst (λ (r : PointRow). HasRow c.args.targets.now.rows r.id) c.row-item.is (c.has_row.ensures.0 c.if-not-has_row.false))

pub returns : goal.returns
returns c = (λ yes. rw (take_all _ _ c.loop-row-test.false) at c.loop-row.invariant, λ all. refl)

pub returns-then-not-has_row : goal.returns-then-not-has_row
returns-then-not-has_row c = (
  λ yes. cc,
  λ all.
      let there = subst (λ (r : PointRow). HasRow c.args.targets.now.rows r.id) (sym c.row-item.is) (all c.loop-row.row-index c.row-item.result c.loop-row-test.true) in
      let yes_it_has = c.has_row.ensures.1 there in let no_it_has = c.if-not-has_row.true in cc,
)
