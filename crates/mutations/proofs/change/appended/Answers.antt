use Rattle.std.proofs.Common.{◌∙◌, inl, inr, [], ◌∷◌, ◌++◌, ap}
use Rattle.mutations.proofs.Steps.{held, lacked, append_step, append_end}
use Rattle.mutations.proofs.change.appended.Goals as goal
use Rattle.mutations.proofs.change.appended.Goals.{then-not-holds+in_ok-copy+in_ok-push, else-not-holds}

pub loop-value-preserved : goal.loop-value-preserved
loop-value-preserved c after rest =
    c.loop-value.invariant after (append_step c.args.added.now c.loop-value.all.items c.if-not-holds.all.items c.loop-value.value-index c.value-item.result after c.loop-value-test.true c.value-item.is (elim c.if-not-holds.branch [
      | then-not-holds+in_ok-copy+in_ok-push w ↦ inr (lacked c.holds.result c.as_slice.result.now c.loop-value.all.items c.value-item.result c.holds.ensures c.as_slice.ensures.value w.if-not-holds.true, ap (λ v. v.items) w.all-is ∙ w.in_ok-push.ensures.items ∙ ap (λ x. c.loop-value.all.items ++ x ∷ []) w.in_ok-copy.ensures)
      | else-not-holds w ↦ inl (held c.holds.result c.as_slice.result.now c.loop-value.all.items c.value-item.result c.holds.ensures c.as_slice.ensures.value w.if-not-holds.false, ap (λ v. v.items) w.all-is)
    ]) rest)

pub returns : goal.returns
returns c = c.loop-value.invariant c.loop-value.all.items (append_end c.args.added.now c.loop-value.all.items c.loop-value.value-index c.loop-value-test.false)
