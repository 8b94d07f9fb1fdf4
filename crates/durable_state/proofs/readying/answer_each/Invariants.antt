use Rattle.std.proofs.Common.{◌≡◌, take}
use Rattle.std.specs.List.{filter_map}
use Rattle.value_model.specs.declared.document.Seal.TheVariants.{Committed}
use Rattle.remote_documents.specs.Table.{IsMapOf, entries_in}
use Rattle.durable_state.specs.Cached.{answered_by}
use Rattle.durable_state.specs.Ready.{HavePlaces, first_keys, put_changes}
use Rattle.durable_state.proofs.readying.answer_each.Given as goal

abbrev pub invariant-loop-place : goal.invariant-loop-place
invariant-loop-place l = record {
  same : entries_in l.entries ≡ entries_in l.initial.entries;
  map : IsMapOf l.entries;
  changes : put_changes (Committed l.answer.at) l.changes.items ≡ filter_map (answered_by (entries_in l.initial.entries) l.writes l.answer.results.now l.answer.at) (first_keys (take l.place l.writes));
  places : HavePlaces l.entries l.changes.items;
}
