use Rattle.std.proofs.Common.{map, take}
use Rattle.std.specs.List.{filter}
use Rattle.mutation_queue.specs.Queue.{named_keys}
use Rattle.overlays.specs.Table.{SameOverlays}
use Rattle.durable_state.specs.Documents.{is_among}
use Rattle.durable_state.specs.Ready.{IsOver, LaysKeys}
use Rattle.durable_state.proofs.relaying.lay_changed.Given as goal

abbrev pub invariant-loop-change : goal.invariant-loop-change
invariant-loop-change l = record {
  same : SameOverlays l.initial.overlays l.overlays;
  laid : LaysKeys l.overlays (IsOver l.pending.batches l.changes) (filter (is_among (named_keys l.pending.batches)) (map (λ c. c.key) (take l.change-index l.changes))) l.laid.items;
}
