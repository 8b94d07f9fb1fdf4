use Rattle.std.proofs.Common.{◌≡◌, rules}
use Rattle.std.specs.BTreeSet as set
use Rattle.std.specs.Ordering.{int_cmp}
use Rattle.sync_engine.proofs.Picking.{ids_ascend, ids_members}
use Rattle.sync_engine.proofs.asking.ascending.Goals as goal

pub returns-clause-ascending : goal.returns-clause-ascending
returns-clause-ascending c =
    let same : c.in_ok-those.those.items ≡ c.in_ok-set.set.keys = search rules in
    ids_ascend c.in_ok-set.set c.in_ok-those.those.items c.iter-2.ensures.ordered same

pub returns-clause-members : goal.returns-clause-members
returns-clause-members c =
    let same : c.in_ok-those.those.items ≡ c.in_ok-set.set.keys = search rules in
    let made : set.IsFromIterResult int_cmp c.args.ids.now c.in_ok-set.set = search rules in
    ids_members c.in_ok-set.set c.in_ok-those.those.items c.args.ids.now made same
