use Rattle.std.proofs.Common.{◌≡◌, ◌↔◌, ◌++◌, List, ℕ, length}
use Rattle.std.specs.List.{Contains}
use Rattle.std.specs.Vec.Iter.{into_iter_items, into_iter_len}
use Rattle.document_keys.specs.KeySet.{IsAscending}
use Rattle.outcome_codec.proofs.keys.set_of.Given as goal

abbrev pub invariant-loop-key : goal.invariant-loop-key
invariant-loop-key l = record {
  split : l.fn.keys.items ≡ l.yielded ++ into_iter_items l.key-iterator;
  members : (k : List (List ℕ)) → Contains l.set k ↔ Contains l.yielded k;
  ascending : IsAscending l.set;
  count : into_iter_len l.key-iterator ≡ length (into_iter_items l.key-iterator);
}
