use Rattle.std.proofs.Common.{◌∙◌, sym, ap, subst, Option, IfSome}
use Rattle.std.specs.List.{All}
use Rattle.std.proofs.lemmas.List.Elements.{All-push}
use Rattle.outcome_codec.specs.Spelling.{IsSpelledRow}
use Rattle.outcome_codec.specs.declared.parts.PointRow.{PointRow}
use Rattle.watch_points.specs.Steps.{row_from}
use Rattle.watch_points.proofs.Lists.{made_none, made_some}
use Rattle.watch_points.proofs.rows.point_rows.Goals as goal
use Rattle.watch_points.proofs.rows.point_rows.Goals.{in-Some+in_ok-push-in-Some, in-None}

pub loop-target-preserved : goal.loop-target-preserved
loop-target-preserved c = elim c.match-branch-2.branch [
  | in-Some+in_ok-push-in-Some w ↦
      let longer = ap (λ r. r.items) w.rows-is ∙ w.in_ok-push-in-Some.ensures.items in
      record {
        made = made_some (row_from c.args.tables.now.targets.rows) c.args.targets.now c.loop-target.target-index c.target-item.result w.in-Some.row c.loop-target.rows.items c.match-branch-2.rows.items c.loop-target-test.true c.target-item.is c.loop-target.invariant.made (sym w.in-Some.is ∙ c.in_ok-row.ensures.row) longer;
        spelled = subst (All IsSpelledRow) (sym longer) (All-push IsSpelledRow c.loop-target.rows.items w.in-Some.row c.loop-target.invariant.spelled (subst (λ (o : Option PointRow). IfSome o IsSpelledRow) w.in-Some.is c.in_ok-row.ensures.spelled));
      }
  | in-None w ↦
      let same = ap (λ r. r.items) w.rows-is in
      record {
        made = same ∙ made_none (row_from c.args.tables.now.targets.rows) c.args.targets.now c.loop-target.target-index c.target-item.result c.loop-target.rows.items c.loop-target-test.true c.target-item.is c.loop-target.invariant.made (sym w.in-None.is ∙ c.in_ok-row.ensures.row);
        spelled = subst (All IsSpelledRow) (sym same) c.loop-target.invariant.spelled;
      }
]
