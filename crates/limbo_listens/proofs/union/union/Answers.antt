use Rattle.limbo_listens.proofs.Shown.{sorted_members}
use Rattle.limbo_listens.proofs.union.union.Goals as goal

pub returns-clause-members : goal.returns-clause-members
returns-clause-members c = sorted_members c.args.shown.now.entries c.in_ok-all.all.items c.sort.new.self.items c.set_of.result c.in_ok-all.ensures.items c.sort.ensures.permutation c.set_of.ensures.members
