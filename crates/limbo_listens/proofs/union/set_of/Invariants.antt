use Rattle.std.proofs.Common.{◌≡◌, ◌↔◌, ◌++◌}
use Rattle.std.specs.List.{Contains}
use Rattle.std.specs.Vec.Iter.{into_iter_items}
use Rattle.document_keys.specs.KeySet.{IsAscending}
use Rattle.limbo_resolver.specs.Limbo.{Key}
use Rattle.limbo_listens.proofs.union.set_of.Given as goal

abbrev pub invariant-loop-key : goal.invariant-loop-key
invariant-loop-key l = record {
  split : l.fn.keys.items ≡ l.yielded ++ into_iter_items l.key-iterator;
  ascending : IsAscending l.set;
  members : (key : Key) → Contains l.set key ↔ Contains l.yielded key;
}
