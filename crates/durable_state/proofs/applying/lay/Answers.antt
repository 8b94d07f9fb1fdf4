use Rattle.std.proofs.Common.{◌∙◌, ◌++◌, ◌∷◌, [], IsTrue, Some, cond, sym, ap, append_assoc}
use Rattle.std.specs.Vec.Iter.{into_iter_items}
use Rattle.document_keys.specs.KeySet.{is_key}
use Rattle.key_table.specs.Table.{has_key}
use Rattle.durable_state.proofs.Laid.{in_the_middle, put_more}
use Rattle.durable_state.proofs.applying.lay.Goals as goal

pub set-requires : goal.set-requires
set-requires c =
    let split = c.loop-overlay.invariant.split ∙ ap (λ l. c.loop-overlay.yielded ++ l) c.in-Some.ensures.steps.0 in
    c.loop-overlay.invariant.places _ (in_the_middle (λ o. IsTrue (has_key c.args.overlays.now o.key)) _ _ _ c.in-Some.overlay split c.requires)

pub loop-overlay-preserved : goal.loop-overlay-preserved
loop-overlay-preserved c = record {
  split = c.loop-overlay.invariant.split ∙ ap (λ l. c.loop-overlay.yielded ++ l) c.in-Some.ensures.steps.0 ∙ sym (append_assoc c.loop-overlay.yielded (c.in-Some.overlay ∷ []) (into_iter_items c.next.new.self));
  put = λ q. c.set.ensures.done q ∙ ap (λ f. cond (is_key c.in-Some.overlay.key q) (Some c.in-Some.overlay.document) f) (c.loop-overlay.invariant.put q) ∙ sym (put_more q _ c.loop-overlay.yielded c.in-Some.overlay);
  places = λ q had. c.set.ensures.places q (c.loop-overlay.invariant.places q had);
}
