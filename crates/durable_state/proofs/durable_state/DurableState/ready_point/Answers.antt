use Rattle.std.proofs.Common.{◌<◌, [], refl, sym, subst}
use Rattle.std.specs.List.{All}
use Rattle.value_model.specs.declared.document.Seal.TheVariants.{Seen}
use Rattle.outcome_codec.specs.declared.parts.PointRow.{PointRow}
use Rattle.durable_state.specs.Cached.{seen_at}
use Rattle.durable_state.specs.Rows.{HasRow}
use Rattle.durable_state.specs.State.{IsPointOf, most_commits}
use Rattle.durable_state.specs.Tables.{Tables}
use Rattle.durable_state.specs.declared.ready.Step.TheVariants.{Tell}
use Rattle.durable_state.proofs.Anew.{Ascend, lays_told}
use Rattle.durable_state.proofs.Kept.{still_kept}
use Rattle.durable_state.proofs.Making.{make_ready, only_put}
use Rattle.durable_state.proofs.durable_state.DurableState.ready_point.Goals as goal

pub invariant_of-self : goal.invariant_of-self
invariant_of-self c = still_kept _ _ c.self.invariant (rw c.make_places.ensures.same refl) c.make_places.ensures.map (λ q. refl)

pub invariant_of-self-in_err-overlays : goal.invariant_of-self-in_err-overlays
invariant_of-self-in_err-overlays c = still_kept _ _ c.self.invariant (rw c.make_places.ensures.same refl) c.make_places.ensures.map c.lay_changed.ensures.same

pub invariant_of-self-2 : goal.invariant_of-self-2
invariant_of-self-2 c = still_kept _ _ c.self.invariant (rw c.make_places.ensures.same refl) c.make_places.ensures.map c.lay_changed.ensures.same

pub returns-clause-ready : goal.returns-clause-ready
returns-clause-ready c =
    let fits = subst (λ (t : Tables). IsPointOf t.last_read c.args.at t.targets.rows c.args.rows × (t.number < most_commits)) (sym c.self.view_is) c.requires.fits in
    let laid = rw c.as_slice-2.ensures.value at c.in_ok-overlays.ensures.laid in
    make_ready _ _ (Tell c.args.at c.into_vec.result) (seen_at c.into_vec-changes.result.items) [] fits.1 c.alone-ready.ensures.step (only_put Seen c.into_vec-changes.result.items c.alone-ready.result.dropped c.alone-ready.ensures.dropped) c.alone-ready.ensures.lifted
    (subst (All (λ (r : PointRow). HasRow c.self.inside.targets.rows r.id)) (sym c.into_vec.ensures) fits.0.known) (rw c.as_slice.ensures.value at c.in_ok-make_places.ensures.places) laid.places
    (lays_told _ c.args.at c.into_vec.result c.into_vec-changes.result.items c.lay_changed.new.overlays c.in_ok-overlays.overlays.items (subst Ascend (sym c.into_vec-changes.ensures) c.requires.has_spelling.seen.ascending) laid)
