use Rattle.std.proofs.Common.{◌∙◌, sym, ap, subst}
use Rattle.durable_state.specs.Tables.{state_in}
use Rattle.watch_points.specs.PointCommit.{entry_among}
use Rattle.watch_points.specs.Steps.{missed_of}
use Rattle.watch_points.proofs.Listed.{KeysAscend, among_keyed, keyed_ascend}
use Rattle.watch_points.proofs.entries.point_entries.Goals as goal

pub returns-clause-ascend : goal.returns-clause-ascend
returns-clause-ascend c = subst KeysAscend (sym c.in_ok-entries.ensures.value) (keyed_ascend c.miss_all.new.table.entries c.listed.ensures.ordered)

pub returns-clause-each : goal.returns-clause-each
returns-clause-each c = λ k.
    ap (λ es. entry_among es k) c.in_ok-entries.ensures.value ∙ among_keyed k c.miss_all.new.table.entries ∙ c.in_ok-miss_all.ensures k
    ∙ ap (missed_of (state_in c.args.tables.now) c.args.at c.args.targets.now k) (c.in_ok-table.ensures k)
