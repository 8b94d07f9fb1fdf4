use Rattle.std.proofs.Common.{◌∙◌, IsTrue, refl, sym, ap, subst}
use Rattle.std.specs.List.{All}
use Rattle.key_table.specs.Table.{has_key}
use Rattle.overlays.specs.declared.overlays.Overlay.{Overlay}
use Rattle.durable_state.specs.Cached.{dropped, with_all}
use Rattle.durable_state.specs.Ready.{HavePlaces, IsReady, lift_over, put_changes}
use Rattle.durable_state.specs.Tables.{Tables}
use Rattle.durable_state.proofs.Changed.{all_append}
use Rattle.durable_state.proofs.Kept.{kept_by}
use Rattle.durable_state.proofs.durable_state.DurableState.apply.Goals as goal

pub put-requires-clause-places : goal.put-requires-clause-places
put-requires-clause-places c = subst (λ (t : Tables). HavePlaces t.entries c.args.ready.changes.items) (sym c.self.view_is) c.requires.entries

pub lay-requires : goal.lay-requires
lay-requires c = subst (λ (t : Tables). All (λ (o : Overlay). IsTrue (has_key t.overlays o.key)) c.args.ready.overlays.items) (sym c.self.view_is) c.requires.places

pub invariant_of-self : goal.invariant_of-self
invariant_of-self c =
    let is_ready = subst (λ (t : Tables). IsReady t c.args.ready) (sym c.self.view_is) c.requires in
    let entries = c.forget.ensures.is ∙ ap (λ m. with_all m (dropped c.args.ready.dropped)) c.put.ensures.is ∙ sym (all_append _ (put_changes c.args.ready.seal c.args.ready.changes.items) (dropped c.args.ready.dropped)) in
    kept_by _ c.args.ready _ c.self.invariant is_ready (rw (c.next_batch-self-inside.ensures, c.last_read-self-inside.ensures, c.take_step.ensures.batches, c.take_step.ensures.rows, entries) refl) c.forget.ensures.map
    (λ q. c.lift.ensures q ∙ ap (λ f. lift_over q f c.args.ready.lifted.items) (c.lay.ensures q))
