use Rattle.std.proofs.Common.{List, ℕ, [], ◌∷◌, ◌++◌, sym, ap, ◌∙◌, append_assoc, append-nil}
use Rattle.sync_engine.proofs.Blanked.{items_only}
use Rattle.sync_engine.proofs.Gathering.{items_ascend, items_have}
use Rattle.sync_engine.proofs.settling.in_order.Goals as goal

pub loop-id-init : goal.loop-id-init
loop-id-init c = record { split = sym (ap (λ (l : List ℕ). l ++ c.into_iter-id-iterator.result) c.new-ids.ensures.items) }

pub loop-id-preserved : goal.loop-id-preserved
loop-id-preserved c = record {
  split = c.loop-id.invariant.split ∙ ap (λ (l : List ℕ). c.loop-id.ids.items ++ l) c.in-Some.ensures.steps ∙ sym (append_assoc c.loop-id.ids.items (c.in-Some.id.now ∷ []) c.next.new.self)
      ∙ ap (λ (l : List ℕ). l ++ c.next.new.self) (sym c.in_ok-push.ensures.items);
}

pub returns-clause-ascending : goal.returns-clause-ascending
returns-clause-ascending c = items_ascend c.args.set.now c.loop-id.ids.items c.iter-id-items.ensures.ordered (sym (c.loop-id.invariant.split ∙ ap (λ (l : List ℕ). c.loop-id.ids.items ++ l) c.in-None.ensures.steps.0 ∙ append-nil c.loop-id.ids.items) ∙ (c.into_iter-id-iterator.ensures.into_iter_gives ∙ c.iter-id-items.ensures.rest))

pub returns-clause-all : goal.returns-clause-all
returns-clause-all c = λ id has. items_have c.args.set.now c.loop-id.ids.items id (sym (c.loop-id.invariant.split ∙ ap (λ (l : List ℕ). c.loop-id.ids.items ++ l) c.in-None.ensures.steps.0 ∙ append-nil c.loop-id.ids.items) ∙ (c.into_iter-id-iterator.ensures.into_iter_gives ∙ c.iter-id-items.ensures.rest)) has

pub returns-clause-only : goal.returns-clause-only
returns-clause-only c = λ id there. items_only c.args.set.now c.loop-id.ids.items id (sym (c.loop-id.invariant.split ∙ ap (λ (l : List ℕ). c.loop-id.ids.items ++ l) c.in-None.ensures.steps.0 ∙ append-nil c.loop-id.ids.items) ∙ (c.into_iter-id-iterator.ensures.into_iter_gives ∙ c.iter-id-items.ensures.rest)) there
