use Rattle.std.proofs.Common.{◌<◌, refl, sym, subst}
use Rattle.durable_state.specs.Cached.{first_writes}
use Rattle.durable_state.specs.Ready.{AreOf, HavePlaces, first_keys, put_changes}
use Rattle.durable_state.specs.State.{most_commits}
use Rattle.durable_state.specs.Tables.{Tables}
use Rattle.durable_state.specs.declared.ready.Step.TheVariants.{Settle}
use Rattle.durable_state.proofs.Anew.{lays_settled}
use Rattle.durable_state.proofs.Kept.{still_kept}
use Rattle.durable_state.proofs.Making.{make_ready, only_put}
use Rattle.durable_state.proofs.durable_state.DurableState.ready_settling.Goals as goal

pub invariant_of-self : goal.invariant_of-self
invariant_of-self c = still_kept _ _ c.self.invariant refl c.self.invariant.map c.lay_behind.ensures.same

pub invariant_of-self-2 : goal.invariant_of-self-2
invariant_of-self-2 c = still_kept _ _ c.self.invariant refl c.self.invariant.map c.lay_behind.ensures.same

pub returns-clause-ready : goal.returns-clause-ready
returns-clause-ready c =
    let number = subst (λ (t : Tables). t.number < most_commits) (sym c.self.view_is) c.requires.number in
    let places = subst (λ (t : Tables). HavePlaces t.entries c.args.changes.items) (sym c.self.view_is) c.requires.places in
    let of = subst (λ (t : Tables). AreOf (first_keys (first_writes t.pending.batches)) c.args.changes.items) (sym c.self.view_is) c.requires.keys in
    let laid = rw c.as_slice.ensures.value at (c.in_ok-relaid.ensures.laid c.args.seal) in
    make_ready _ _ Settle (put_changes c.args.seal c.args.changes.items) _ number c.alone-ready.ensures.step (only_put c.args.seal c.args.changes.items c.alone-ready.result.dropped c.alone-ready.ensures.dropped) refl tt places laid.places
    (lays_settled _ c.args.seal c.args.changes.items c.in_ok-relaid.relaid.laid.items c.in_ok-relaid.relaid.lifted.items of c.lay_behind.new.overlays laid c.in_ok-relaid.ensures.lifted)
