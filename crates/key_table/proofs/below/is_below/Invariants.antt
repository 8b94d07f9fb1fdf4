use Rattle.std.proofs.Common.{◌≡◌, ◌≤◌, take, length}
use Rattle.key_table.proofs.below.is_below.Given as goal

-- the path of the key begins as the collection's does, as far as this
abbrev pub invariant-loop-index : goal.invariant-loop-index
invariant-loop-index l = (take l.index l.key ≡ take l.index l.collection) × (l.index ≤ length l.collection) × (l.index-end ≡ length l.collection)
