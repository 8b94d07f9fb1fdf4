use Rattle.listeners.proofs.Kept.{keys_ascending, keys_viewed}
use Rattle.listeners.proofs.listeners.Listeners.ids.Goals as goal

pub returns-clause-ascending : goal.returns-clause-ascending
returns-clause-ascending c = keys_ascending c.self.inside.listeners c.keys_of.result c.keys_of.ensures.items c.keys_of.ensures.ordered

pub returns-clause-members : goal.returns-clause-members
returns-clause-members c = rw (← c.self.view_is) (keys_viewed c.self.inside.listeners c.keys_of.result c.keys_of.ensures.items)
