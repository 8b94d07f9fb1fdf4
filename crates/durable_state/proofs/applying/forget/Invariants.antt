use Rattle.std.proofs.Common.{◌≡◌, take}
use Rattle.remote_documents.specs.Table.{IsMapOf, entries_in}
use Rattle.durable_state.specs.Cached.{dropped, with_all}
use Rattle.durable_state.proofs.applying.forget.Given as goal

abbrev pub invariant-loop-key : goal.invariant-loop-key
invariant-loop-key l = record {
  is : entries_in l.entries ≡ with_all (entries_in l.initial.entries) (dropped (take l.key-index l.keys));
  map : IsMapOf l.entries;
}
