use Rattle.std.proofs.Common.{take}
use Rattle.overlays.specs.LocalDocument.{after_writes, base_of}
use Rattle.overlays.specs.Table.{SameOverlays, shown}
use Rattle.remote_documents.specs.Table.{entries_in}
use Rattle.durable_state.specs.Cached.{cached}
use Rattle.durable_state.specs.Ready.{HasDocument, LaysKeys, first_keys}
use Rattle.durable_state.proofs.relaying.lay_each.Given as goal

abbrev pub invariant-loop-place : goal.invariant-loop-place
invariant-loop-place l = record {
  same : SameOverlays l.initial.overlays l.overlays;
  laid : LaysKeys l.overlays (HasDocument (λ key. after_writes key l.at (shown l.initial.overlays key (base_of (cached (entries_in l.entries) key))) l.keyed)) (first_keys (take l.place l.keyed)) l.laid.items;
}
