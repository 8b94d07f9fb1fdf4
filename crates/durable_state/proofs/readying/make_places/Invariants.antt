use Rattle.std.proofs.Common.{◌≡◌, take}
use Rattle.remote_documents.specs.Table.{IsMapOf, entries_in}
use Rattle.durable_state.specs.Ready.{HavePlaces}
use Rattle.durable_state.proofs.readying.make_places.Given as goal

abbrev pub invariant-loop-change : goal.invariant-loop-change
invariant-loop-change l = record {
  same : entries_in l.entries ≡ entries_in l.initial.entries;
  map : IsMapOf l.entries;
  places : HavePlaces l.entries (take l.change-index l.changes);
}
