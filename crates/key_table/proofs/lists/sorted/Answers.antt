use Rattle.key_table.proofs.Listing.{permuted_members, sorted_once}
use Rattle.key_table.proofs.lists.sorted.Goals as goal

pub returns-clause-ascending : goal.returns-clause-ascending
returns-clause-ascending g c = sorted_once c.in_ok-keys.keys.items c.sort_unstable.new.self.items c.in_ok-keys.ensures.once c.sort_unstable.ensures.permutation c.sort_unstable.ensures.sorted

pub returns-clause-members : goal.returns-clause-members
returns-clause-members g c = λ q.
    let moved = permuted_members c.in_ok-keys.keys.items c.sort_unstable.new.self.items c.sort_unstable.ensures.permutation q in
    let members = c.in_ok-keys.ensures.members q in
    (λ there. members.0 (moved.0 there), λ both. moved.1 (members.1 both))
