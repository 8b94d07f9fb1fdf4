use Rattle.std.proofs.Common.{◌≡◌, ◌∙◌, ℕ, List, refl, ap, subst}
use Rattle.std.proofs.lemmas.Result.{IfOk-weaker}
use Rattle.mutations.specs.declared.write.Write.{Write}
use Rattle.std.specs.List.{filter_map}
use Rattle.value_model.specs.declared.document.Seal.TheVariants.{Committed}
use Rattle.remote_documents.specs.Table.{EntryMap, entries_in}
use Rattle.durable_state.specs.Cached.{answered_by, first_writes}
use Rattle.record_codec.specs.declared.commit.Commit.TheVariants.{Acknowledge}
use Rattle.durable_state.specs.Ready.{AreOf, first_keys, moved, put_changes, state_by}
use Rattle.durable_state.specs.State.{State, committed}
use Rattle.durable_state.specs.Tables.{Tables, state_in}
use Rattle.durable_state.specs.declared.ready.Ready.{Ready}
use Rattle.durable_state.specs.declared.ready.Step.TheVariants.{Settle}
use Rattle.durable_state.proofs.Anew.{of_answered}
use Rattle.durable_state.proofs.Kept.{still_kept}
use Rattle.durable_state.proofs.Making.{answered_moved}
use Rattle.durable_state.proofs.Relaid.{head_writes}
use Rattle.durable_state.proofs.durable_state.DurableState.ready_answer.Goals as goal

pub invariant_of-self : goal.invariant_of-self
invariant_of-self c = still_kept _ _ c.self.invariant (rw c.answered.ensures.same refl) c.answered.ensures.map (λ q. refl)

pub invariant_of-self-2 : goal.invariant_of-self-2
invariant_of-self-2 c = still_kept _ _ c.self.invariant (rw c.answered.ensures.same refl) c.answered.ensures.map (λ q. refl)

pub ready_settling-requires-clause-keys : goal.ready_settling-requires-clause-keys
ready_settling-requires-clause-keys c =
    let writes = c.as_slice.ensures ∙ head_writes c.self.inside.pending.batches c.in-Some.first.now c.in-Some.ensures in
    subst (λ (ws : List Write). AreOf (first_keys ws) c.in_ok-changes.changes.items) writes
    (of_answered (entries_in c.self.inside.entries) c.as_slice.result.now c.as_slice-2.result.now c.args.at c.in_ok-changes.changes.items c.in_ok-changes.ensures.changes)

pub returns-clause-moves : goal.returns-clause-moves
returns-clause-moves c =
    let s = state_in c.args.self.now in
    let at = c.args.at in
    let writes = c.as_slice.result.now in
    let results = c.as_slice-2.result.now in
    let cs = c.in_ok-changes.changes.items in
    let inside : Tables = record { number = c.self.inside.number; next_batch = c.self.inside.next_batch; last_read = c.self.inside.last_read; pending = c.self.inside.pending; entries = c.answered.new.entries; targets = c.self.inside.targets; overlays = c.self.inside.overlays } in
    let same : state_in inside ≡ s =
    ap (λ (m : EntryMap). record (state_in inside) { entries = m }) c.answered.ensures.same ∙ ap state_in c.self.view_is in
    let first : writes ≡ first_writes s.batches =
    c.as_slice.ensures ∙ head_writes c.self.inside.pending.batches c.in-Some.first.now c.in-Some.ensures ∙ ap (λ (t : Tables). first_writes t.pending.batches) c.self.view_is in
    let is : put_changes (Committed at) cs ≡ filter_map (answered_by s.entries writes results at) (first_keys writes) =
    c.in_ok-changes.ensures.changes ∙ ap (λ (t : Tables). filter_map (answered_by (entries_in t.entries) writes results at) (first_keys writes)) c.self.view_is in
    IfOk-weaker c.ready_settling.result _ (λ (ready : Ready). (id : ℕ) → state_by s ready ≡ committed s (Acknowledge id at c.args.results.now))
    (λ (ready : Ready) moves id.
    let moved_so : state_by (state_in inside) ready ≡ moved (state_in inside) Settle (put_changes (Committed at) cs) = moves in
    subst (λ (x : State). state_by x ready ≡ moved x Settle (put_changes (Committed at) cs)) same moved_so
    ∙ answered_moved s id at results writes cs first is ∙ ap (λ rs. committed s (Acknowledge id at rs)) c.as_slice-2.ensures)
    c.ready_settling.ensures.moves
