use Rattle.std.proofs.Common.{◌∙◌, ◌++◌, ◌∷◌, [], None, cond, sym, ap, append_assoc}
use Rattle.std.specs.Vec.Iter.{into_iter_items}
use Rattle.document_keys.specs.KeySet.{is_key}
use Rattle.durable_state.proofs.Laid.{lift_more}
use Rattle.durable_state.proofs.applying.lift.Goals as goal

pub loop-key-preserved : goal.loop-key-preserved
loop-key-preserved c = record {
  split = c.loop-key.invariant.split ∙ ap (λ l. c.loop-key.yielded ++ l) c.in-Some.ensures.steps.0 ∙ sym (append_assoc c.loop-key.yielded (c.in-Some.key ∷ []) (into_iter_items c.next.new.self));
  lifted = λ q. c.remove.ensures.done q ∙ ap (λ f. cond (is_key c.in-Some.key q) None f) (c.loop-key.invariant.lifted q) ∙ sym (lift_more q _ c.loop-key.yielded c.in-Some.key);
}
