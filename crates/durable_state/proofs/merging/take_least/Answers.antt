use Rattle.std.proofs.Common.{rules}
use Rattle.durable_state.proofs.Merged.{Taken, taken_both, taken_left, taken_right}
use Rattle.durable_state.proofs.merging.take_least.Goals as goal

pub returns-in-Less : goal.returns-in-Less
returns-in-Less c =
    let t : Taken c.args.left.now.items c.args.right.now.items c.pop_front.result c.pop_front.new.self.items c.args.right.now.items =
    taken_left c.args.left.now.items c.args.right.now.items c.pop_front.new.self.items c.pop_front.result c.requires.left c.requires.right c.in-Less.ensures c.pop_front.ensures.items c.pop_front.ensures.rest in
    record { left = t.left; right = t.right; none = t.none; least = t.least; members = t.members; fewer = search rules }

pub returns-in-Greater : goal.returns-in-Greater
returns-in-Greater c =
    let t : Taken c.args.left.now.items c.args.right.now.items c.pop_front-in-Greater.result c.args.left.now.items c.pop_front-in-Greater.new.self.items =
    taken_right c.args.left.now.items c.args.right.now.items c.pop_front-in-Greater.new.self.items c.pop_front-in-Greater.result c.requires.left c.requires.right c.in-Greater.ensures c.pop_front-in-Greater.ensures.items c.pop_front-in-Greater.ensures.rest in
    record { left = t.left; right = t.right; none = t.none; least = t.least; members = t.members; fewer = search rules }

pub returns-in-Equal : goal.returns-in-Equal
returns-in-Equal c =
    let t : Taken c.args.left.now.items c.args.right.now.items c.pop_front-in-Equal-2.result c.pop_front-in-Equal-2.new.self.items c.pop_front-in-Equal.new.self.items =
    taken_both c.args.left.now.items c.args.right.now.items c.pop_front-in-Equal-2.new.self.items c.pop_front-in-Equal.new.self.items c.pop_front-in-Equal-2.result c.requires.left c.requires.right c.in-Equal.ensures c.pop_front-in-Equal-2.ensures.items c.pop_front-in-Equal-2.ensures.rest c.pop_front-in-Equal.ensures.rest in
    record { left = t.left; right = t.right; none = t.none; least = t.least; members = t.members; fewer = search rules }
