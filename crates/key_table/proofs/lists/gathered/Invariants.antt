use Rattle.key_table.proofs.Listing.{Gathered}
use Rattle.key_table.proofs.lists.gathered.Given as goal

abbrev pub invariant-loop-key : goal.invariant-loop-key
invariant-loop-key l = Gathered l.initial.key-iterator l.key-iterator l.keys
