use Rattle.std.proofs.Common.{◌≡◌, ◌<◌, ◌≤◌, List, length, ap, sym, subst, refl, arith}
use Rattle.overlays.specs.Table as overlay
use Rattle.remote_documents.specs.Table as remote
use Rattle.target_cache.specs.Cache.{Cache, id_at}
use Rattle.target_cache.specs.Kept.{IsNew}
use Rattle.target_cache.specs.declared.row.Row.{Row}
use Rattle.durable_state.specs.State.{IsAllocation, most_commits}
use Rattle.durable_state.specs.Tables.{IsKept, Tables}
use Rattle.durable_state.specs.declared.ready.Step.TheVariants.{Allocate}
use Rattle.durable_state.proofs.Kept.{still_kept}
use Rattle.durable_state.proofs.Making.{ready_alone}
use Rattle.durable_state.proofs.durable_state.DurableState.ready_target.Goals as goal

-- tables that hold the same, with room for more
with_room : (t : Tables) (entries : remote.Table) (targets : Cache) (overlays : overlay.Table) → entries ≡ t.entries → overlays ≡ t.overlays → targets.rows ≡ t.targets.rows → IsKept t → IsKept (record t { entries = entries; targets = targets; overlays = overlays })
with_room t entries targets overlays known laid rows kept = still_kept t (record t { entries = entries; targets = targets; overlays = overlays }) kept (λ i. record {
  number = t.number;
  batches = t.pending.batches;
  next_batch = t.next_batch;
  entries = remote.entries_in (known i);
  last_read = t.last_read;
  rows = rows i;
}) (subst remote.IsMapOf (sym known) kept.map) (λ key. ap (λ table. overlay.overlay_of table key) laid)

pub invariant_of-self : goal.invariant_of-self
invariant_of-self c = with_room _ c.make_room.new.entries c.make_room.new.targets c.make_room.new.overlays c.make_room.ensures.same_entries c.make_room.ensures.same_overlays c.make_room.ensures.same_rows c.self.invariant

pub invariant_of-self-2 : goal.invariant_of-self-2
invariant_of-self-2 c = with_room _ c.make_room.new.entries c.make_room.new.targets c.make_room.new.overlays c.make_room.ensures.same_entries c.make_room.ensures.same_overlays c.make_room.ensures.same_rows c.self.invariant

pub returns-clause-ready : goal.returns-clause-ready
returns-clause-ready c =
    let fits = subst (λ (t : Tables). IsAllocation t.targets.rows c.requires.0 c.args.target × (t.number < most_commits)) (sym c.self.view_is) c.requires.1 in
    let rows = c.make_room.ensures.same_rows in
    let next = fits.0.next in
    let left = fits.0.left in
    ready_alone _ _ (Allocate c.args.target) fits.1 refl c.alone.ensures.step c.alone.ensures.changes c.alone.ensures.dropped c.alone.ensures.overlays c.alone.ensures.lifted
    (omega (arith, c.in_ok-make_room.ensures.room), subst (λ (l : List Row). id_at (length l) ≤ 2147483646) (sym rows) (omega (arith, next, left)), subst (λ (l : List Row). IsNew l c.args.target) (sym rows) fits.0.new)
