use Rattle.listeners.proofs.Targeted.{all_wanted, all_ascending}
use Rattle.listeners.proofs.listeners.Listeners.wanted.Goals as goal

pub returns-clause-ascending : goal.returns-clause-ascending
returns-clause-ascending c = all_ascending c.self.inside.indexes.targets.ids c.to_vec.result c.to_vec.ensures.items c.to_vec.ensures.ordered

pub returns-clause-members : goal.returns-clause-members
returns-clause-members c = rw (← c.self.view_is) (all_wanted c.self.inside.listeners.entries c.self.inside.indexes.targets.ids c.self.invariant.targeted c.self.invariant.filled c.to_vec.result c.to_vec.ensures.items)
