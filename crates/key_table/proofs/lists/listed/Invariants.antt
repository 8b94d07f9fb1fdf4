use Rattle.key_table.proofs.Listing.{Listing, Precedes}
use Rattle.key_table.proofs.lists.listed.Given as goal

abbrev pub invariant-loop-key : goal.invariant-loop-key
invariant-loop-key l = Listing Precedes l.collection l.initial.key-iterator l.key-iterator l.keys.items
