use Rattle.std.proofs.Common.{Some}
use Rattle.durable_state.proofs.Merged.{Taken, all_merged, merged_more}
use Rattle.durable_state.proofs.merging.merged.Goals as goal

pub loop-key-preserved : goal.loop-key-preserved
loop-key-preserved c =
    let e = c.in-Some.ensures in
    let t : Taken c.loop-key.left.items c.loop-key.right.items (Some c.in-Some.key) c.take_least.new.left.items c.take_least.new.right.items =
    record { left = e.left; right = e.right; none = tt; least = e.least; members = e.members } in
    merged_more c.args.left.items c.args.right.items c.loop-key.left.items c.loop-key.right.items c.loop-key.keys.items c.take_least.new.left.items c.take_least.new.right.items c.push.new.self.items c.in-Some.key c.loop-key.invariant t c.in_ok-push.ensures.items

pub returns-clause-members : goal.returns-clause-members
returns-clause-members c =
    all_merged c.args.left.items c.args.right.items c.loop-key.left.items c.loop-key.right.items c.loop-key.keys.items c.loop-key.invariant c.in_default.ensures.none.0 c.in_default.ensures.none.1
