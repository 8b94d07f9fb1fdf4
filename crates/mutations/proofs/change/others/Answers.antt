use Rattle.std.proofs.Common.{◌∙◌, inl, inr, [], ◌∷◌, ◌++◌, refl, ap}
use Rattle.mutations.proofs.Steps.{held, lacked, remove_step, remove_end}
use Rattle.mutations.proofs.change.others.Goals as goal
use Rattle.mutations.proofs.change.others.Goals.{then-not-holds+in_ok-copy+in_ok-push, else-not-holds}

pub loop-item-preserved : goal.loop-item-preserved
loop-item-preserved c after rest =
    remove_step c.args.removed.now c.args.items.now c.loop-item.kept.items c.if-not-holds.kept.items c.loop-item.item-index c.item-item.result after c.loop-item-test.true c.item-item.is c.loop-item.invariant (elim c.if-not-holds.branch [
      | then-not-holds+in_ok-copy+in_ok-push w ↦ inr (lacked c.holds.result c.args.removed.now c.args.removed.now c.item-item.result c.holds.ensures refl w.if-not-holds.true, ap (λ v. v.items) w.kept-is ∙ w.in_ok-push.ensures.items ∙ ap (λ x. c.loop-item.kept.items ++ x ∷ []) w.in_ok-copy.ensures)
      | else-not-holds w ↦ inl (held c.holds.result c.args.removed.now c.args.removed.now c.item-item.result c.holds.ensures refl w.if-not-holds.false, ap (λ v. v.items) w.kept-is)
    ]) rest

pub returns : goal.returns
returns c = remove_end c.args.removed.now c.args.items.now c.loop-item.kept.items c.loop-item.item-index c.loop-item-test.false c.loop-item.invariant
