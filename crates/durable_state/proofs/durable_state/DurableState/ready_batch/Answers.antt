use Rattle.std.proofs.Common.{◌<◌, [], refl, sym, subst}
use Rattle.durable_state.specs.State.{IsNext, most_commits}
use Rattle.durable_state.specs.Tables.{Tables, state_in}
use Rattle.durable_state.specs.declared.ready.Step.TheVariants.{Enqueue}
use Rattle.durable_state.proofs.Anew.{lays_batch}
use Rattle.durable_state.proofs.Kept.{still_kept}
use Rattle.durable_state.proofs.Making.{make_ready, none_placed, only_dropped}
use Rattle.durable_state.proofs.Spelled.{batch_of_fields}
use Rattle.durable_state.proofs.durable_state.DurableState.ready_batch.Goals as goal

pub lay_batch-requires-clause-fields : goal.lay_batch-requires-clause-fields
lay_batch-requires-clause-fields c = batch_of_fields c.args.batch c.requires.has_spelling

pub invariant_of-self-in_err-overlays : goal.invariant_of-self-in_err-overlays
invariant_of-self-in_err-overlays c = still_kept _ _ c.self.invariant (rw c.reserve.ensures.same refl) c.self.invariant.map c.lay_batch.ensures.same

pub invariant_of-self-2 : goal.invariant_of-self-2
invariant_of-self-2 c = still_kept _ _ c.self.invariant (rw c.reserve.ensures.same refl) c.self.invariant.map c.lay_batch.ensures.same

pub returns-clause-ready : goal.returns-clause-ready
returns-clause-ready c =
    let number = subst (λ (t : Tables). IsNext (state_in t) c.args.batch × (t.number < most_commits)) (sym c.self.view_is) c.requires.fits in
    make_ready _ _ (Enqueue c.args.batch) [] [] number.1 c.alone-ready.ensures.step (only_dropped c.alone-ready.result.seal c.alone-ready.result.changes.items c.alone-ready.result.dropped [] c.alone-ready.ensures.changes c.alone-ready.ensures.dropped) c.alone-ready.ensures.lifted
    (c.in_ok-reserve.ensures.room, batch_of_fields c.args.batch c.requires.has_spelling) (none_placed c.self.inside.entries c.alone-ready.result.changes.items c.alone-ready.ensures.changes) c.in_ok-overlays.ensures.laid.places
    (rw c.reserve.ensures.same (lays_batch _ c.args.batch c.self.inside.overlays c.lay_batch.new.overlays c.in_ok-overlays.overlays.items c.self.invariant.laid c.in_ok-overlays.ensures.laid))
