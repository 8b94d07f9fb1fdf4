use Rattle.std.proofs.Common.{None, take}
use Rattle.std.specs.List.{filter}
use Rattle.mutation_queue.specs.Queue.{named_keys}
use Rattle.overlays.specs.LocalDocument.{local_document}
use Rattle.overlays.specs.Table.{SameOverlays}
use Rattle.durable_state.specs.Documents.{is_among}
use Rattle.durable_state.specs.Ready.{HasDocument, LaysKeys}
use Rattle.durable_state.proofs.relaying.lay_dropped.Given as goal

abbrev pub invariant-loop-key : goal.invariant-loop-key
invariant-loop-key l = record {
  same : SameOverlays l.initial.overlays l.overlays;
  laid : LaysKeys l.overlays (HasDocument (λ key. local_document key None l.pending.batches)) (filter (is_among (named_keys l.pending.batches)) (take l.key-index l.keys)) l.laid.items;
}
