use Rattle.std.proofs.Common.{◌≡◌, drop, take}
use Rattle.overlays.specs.Table.{SameOverlays}
use Rattle.remote_documents.specs.Table.{entries_in}
use Rattle.durable_state.specs.Ready.{LaysStillNamed, keys_named_no_more}
use Rattle.durable_state.proofs.relaying.settle_each.Given as goal

abbrev pub invariant-loop-place : goal.invariant-loop-place
invariant-loop-place l = record {
  same : SameOverlays l.initial.overlays l.overlays;
  laid : LaysStillNamed l.overlays (entries_in l.entries) l.news (drop 1 l.pending.batches) (take l.place l.keyed) l.relaid.laid.items;
  lifted : l.relaid.lifted.items ≡ keys_named_no_more (drop 1 l.pending.batches) (take l.place l.keyed);
}
