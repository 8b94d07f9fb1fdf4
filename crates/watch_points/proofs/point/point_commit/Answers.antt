use Rattle.std.proofs.Common.{◌↔◌, ◌<◌, ◌<ℤ◌, List, sym, subst, rules}
use Rattle.std.specs.List.{AllPairs, Contains}
use Rattle.durable_state.specs.State.{IsPointOf}
use Rattle.durable_state.specs.Tables.{state_in}
use Rattle.outcome_codec.specs.declared.parts.PointRow.{PointRow}
use Rattle.watch_aggregator.specs.declared.point.WatchTarget.{WatchTarget}
use Rattle.watch_points.specs.PointCommit.{GetsEntry, IsPointRow}
use Rattle.watch_points.proofs.Gets.{gets}
use Rattle.watch_points.proofs.Spelled.{entries_spelled}
use Rattle.watch_points.proofs.TargetRows.{ids_ascend, rows_are, rows_suit}
use Rattle.watch_points.proofs.point.point_commit.Goals as goal

pub returns-clause-commit : goal.returns-clause-commit
returns-clause-commit c = λ h are. record {
  keys_ascend = c.in_ok-entries.ensures.ascend;
  gets = λ k. subst (GetsEntry (state_in c.args.tables.now) h c.args.at k) (sym (c.in_ok-entries.ensures.each k)) (gets (state_in c.args.tables.now) h c.args.at c.args.entries.items c.args.targets.now k are);
  ids_ascend = subst (AllPairs (λ (a b : PointRow). a.id < b.id)) (sym c.in_ok-rows.ensures.rows) (ids_ascend c.args.tables.now.targets.rows c.args.targets.now (subst (AllPairs (λ (a b : WatchTarget). a.id <ℤ b.id)) are.3 are.1.ids_ascend));
  has = λ row. subst (λ (rs : List PointRow). Contains rs row ↔ IsPointRow (state_in c.args.tables.now) h row) (sym c.in_ok-rows.ensures.rows) (rows_are (state_in c.args.tables.now) h c.args.entries.items c.args.targets.now are row);
}

pub returns-clause-suits : goal.returns-clause-suits
returns-clause-suits c = λ time. subst (IsPointOf c.args.tables.now.last_read c.args.at c.args.tables.now.targets.rows) (sym c.in_ok-rows.ensures.rows) (rows_suit c.args.tables.now.last_read c.args.at c.args.tables.now.targets.rows c.args.targets.now time)

pub returns-clause-spelled : goal.returns-clause-spelled
returns-clause-spelled c = λ moment h are spelled. record {
  moment = moment;
  seen = entries_spelled (state_in c.args.tables.now) h c.args.at c.in_ok-entries.entries.items moment spelled (search rules) c.in_ok-entries.ensures.ascend c.in_ok-entries.ensures.named
      (λ k. subst (GetsEntry (state_in c.args.tables.now) h c.args.at k) (sym (c.in_ok-entries.ensures.each k)) (gets (state_in c.args.tables.now) h c.args.at c.args.entries.items c.args.targets.now k are));
  held = record {
    each = c.in_ok-rows.ensures.spelled;
    ascending = subst (AllPairs (λ (a b : PointRow). a.id < b.id)) (sym c.in_ok-rows.ensures.rows) (ids_ascend c.args.tables.now.targets.rows c.args.targets.now (subst (AllPairs (λ (a b : WatchTarget). a.id <ℤ b.id)) are.3 are.1.ids_ascend));
  };
}
