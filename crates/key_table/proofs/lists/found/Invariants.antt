use Rattle.key_table.proofs.Listing.{Listing}
use Rattle.key_table.specs.Table.{Differ}
use Rattle.key_table.proofs.lists.found.Given as goal

abbrev pub invariant-loop-key : goal.invariant-loop-key
invariant-loop-key g l = Listing Differ l.collection l.initial.key-iterator l.key-iterator l.keys.items
