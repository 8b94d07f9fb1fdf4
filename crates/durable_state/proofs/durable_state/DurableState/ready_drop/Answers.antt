use Rattle.std.proofs.Common.{◌<◌, [], refl, sym, subst}
use Rattle.std.specs.List.{All}
use Rattle.durable_state.specs.Cached.{dropped}
use Rattle.durable_state.specs.Rows.{HasRow}
use Rattle.durable_state.specs.State.{IsDrop, most_commits}
use Rattle.durable_state.specs.Tables.{Tables}
use Rattle.durable_state.specs.declared.ready.Step.TheVariants.{Blank}
use Rattle.durable_state.proofs.Anew.{lays_dropped}
use Rattle.durable_state.proofs.Kept.{still_kept}
use Rattle.durable_state.proofs.Making.{make_ready, none_placed, only_dropped}
use Rattle.durable_state.proofs.durable_state.DurableState.ready_drop.Goals as goal

pub invariant_of-self : goal.invariant_of-self
invariant_of-self c = still_kept _ _ c.self.invariant refl c.self.invariant.map c.lay_dropped.ensures.same

pub invariant_of-self-2 : goal.invariant_of-self-2
invariant_of-self-2 c = still_kept _ _ c.self.invariant refl c.self.invariant.map c.lay_dropped.ensures.same

pub returns-clause-ready : goal.returns-clause-ready
returns-clause-ready c =
    let fits = subst (λ (t : Tables). IsDrop t.targets.rows c.args.keys c.args.ids × (t.number < most_commits)) (sym c.self.view_is) c.requires in
    make_ready _ _ (Blank c.into_vec.result) (dropped c.args.keys) [] fits.1 c.alone-ready.ensures.step (only_dropped c.alone-ready.result.seal c.alone-ready.result.changes.items c.args.keys c.args.keys c.alone-ready.ensures.changes refl) c.alone-ready.ensures.lifted
    (subst (All (HasRow c.self.inside.targets.rows)) (sym c.into_vec.ensures) fits.0.known) (none_placed c.self.inside.entries c.alone-ready.result.changes.items c.alone-ready.ensures.changes) c.in_ok-overlays.ensures.laid.places
    (lays_dropped _ c.into_vec.result c.args.keys c.lay_dropped.new.overlays c.in_ok-overlays.overlays.items c.in_ok-overlays.ensures.laid)
