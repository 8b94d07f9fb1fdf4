-- what the tables keep
use Rattle.std.proofs.Common.{◌≡◌, ◌∙◌, ◌≤◌, ◌+◌, ℕ, List, [], ◌∷◌, drop, None, sym, ap, subst, arith}
use Rattle.std.specs.FinMap as finite
use Rattle.std.specs.List.{All}
use Rattle.std.proofs.lemmas.List.Elements.{All-push, All-tail}
use Rattle.mutations.specs.declared.batch.Batch.{Batch}
use Rattle.mutation_queue.specs.Queue.{Queue}
use Rattle.overlays.specs.Table as overlay
use Rattle.remote_documents.specs.Table as remote
use Rattle.remote_documents.proofs.Maps.{one_map, order}
use Rattle.target_cache.specs.Cache.{Cache}
use Rattle.durable_state.specs.Ready.{HasRoomFor, IsReady, batches_by, lift_over, next_by, put_over, state_by}
use Rattle.durable_state.specs.State.{State}
use Rattle.durable_state.specs.Tables.{AreLaid, IsKept, Tables, overlay_for, state_in}
use Rattle.durable_state.specs.declared.ready.Ready.{Ready}
use Rattle.durable_state.specs.declared.ready.Step.{Step}
use Rattle.durable_state.specs.declared.ready.Step.TheVariants.{Enqueue, Settle, Allocate, Tell, Blank}
use Rattle.durable_state.proofs.Laid.{laid_anew}

pub behind_first : (bs : List Batch) → All overlay.IsBatchOfFields bs → All overlay.IsBatchOfFields (drop 1 bs)
behind_first [] all = all
behind_first (b ∷ bs) all = All-tail overlay.IsBatchOfFields b bs all

-- no path of a write is `__name__` behind a step either
pub fields_by : (pending : Queue) (targets : Cache) (bs : List Batch) (step : Step) → HasRoomFor pending targets step → All overlay.IsBatchOfFields bs → All overlay.IsBatchOfFields (batches_by bs step)
fields_by pending targets bs (Enqueue batch) room all = All-push overlay.IsBatchOfFields bs batch all room.1
fields_by pending targets bs Settle room all = behind_first bs all
fields_by pending targets bs (Allocate target) room all = all
fields_by pending targets bs (Tell at rows) room all = all
fields_by pending targets bs (Blank ids) room all = all

pub next_few : (next : ℕ) (step : Step) → next_by next step ≤ next + 1
next_few next (Enqueue batch) = omega arith
next_few next Settle = omega arith
next_few next (Allocate target) = omega arith
next_few next (Tell at rows) = omega arith
next_few next (Blank ids) = omega arith

-- the tables behind a step
pub kept_by : (t : Tables) (ready : Ready) (new : Tables) → IsKept t → IsReady t ready → state_in new ≡ state_by (state_in t) ready → remote.IsMapOf new.entries
    → ((q : List (List ℕ)) → overlay.overlay_of new.overlays q ≡ lift_over q (put_over q (overlay.overlay_of t.overlays q) ready.overlays.items) ready.lifted.items) → IsKept new
kept_by t ready new kept is_ready is map put =
    let number = ap (λ s. s.number) is in
    let next = ap (λ s. s.next_batch) is in
    let few = next_few t.next_batch ready.step in
    record {
      within = let left = is_ready.number in omega (arith, number, left);
      next = let before = kept.next in omega (arith, number, next, few, before);
      fields = subst (All overlay.IsBatchOfFields) (sym (ap (λ s. s.batches) is)) (fields_by t.pending t.targets t.pending.batches ready.step is_ready.room kept.fields);
      map = map;
      laid = subst (λ (s : State). AreLaid s new.overlays) (sym is) (laid_anew (state_in t) (state_by (state_in t) ready) ready.overlays.items ready.lifted.items t.overlays new.overlays is_ready.lays kept.laid put);
    }

-- ---- the first tables

pub first_entries : (table : remote.Table) → remote.IsMapOf table → ((q : List (List ℕ)) → remote.entry_of table q ≡ None) → remote.entries_in table ≡ finite.empty
first_entries table is none = one_map (remote.entries_in table) finite.empty (λ q. is q ∙ none q ∙ sym (finite.get-empty order q))

pub first_laid : (s : State) (table : overlay.Table) → s.batches ≡ [] → ((q : List (List ℕ)) → overlay.overlay_of table q ≡ None) → AreLaid s table
first_laid s table none empty = λ q. empty q ∙ sym (ap (λ (bs : List Batch). overlay_for (record s { batches = bs }) q) none)

-- the same state, and room made for more
pub still_kept : (t new : Tables) → IsKept t → state_in new ≡ state_in t → remote.IsMapOf new.entries → overlay.SameOverlays t.overlays new.overlays → IsKept new
still_kept t new kept is map same = record {
  within = let number = ap (λ s. s.number) is in let before = kept.within in omega (arith, number, before);
  next = let number = ap (λ s. s.number) is in let next = ap (λ s. s.next_batch) is in let before = kept.next in omega (arith, number, next, before);
  fields = subst (All overlay.IsBatchOfFields) (sym (ap (λ s. s.batches) is)) kept.fields;
  map = map;
  laid = subst (λ (s : State). AreLaid s new.overlays) (sym is) (λ q. same q ∙ kept.laid q);
}
