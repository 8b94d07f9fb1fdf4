use Rattle.std.proofs.Common.{◌≡◌, ◌++◌, List, ℕ, IsTrue}
use Rattle.std.specs.Vec.Iter.{into_iter_items}
use Rattle.key_table.specs.Table.{has_key}
use Rattle.remote_documents.specs.Table.{IsMapOf, entries_in}
use Rattle.durable_state.specs.Cached.{with_all}
use Rattle.durable_state.specs.Ready.{put_changes}
use Rattle.durable_state.proofs.applying.put.Given as goal

abbrev pub invariant-loop-change : goal.invariant-loop-change
invariant-loop-change l = record {
  split : l.fn.changes.items ≡ l.yielded ++ into_iter_items l.change-iterator;
  is : entries_in l.entries ≡ with_all (entries_in l.initial.entries) (put_changes l.seal l.yielded);
  map : IsMapOf l.entries;
  places : (q : List (List ℕ)) → IsTrue (has_key l.initial.entries q) → IsTrue (has_key l.entries q);
}
