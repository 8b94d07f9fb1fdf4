use Rattle.std.proofs.Common.{◌∙◌, length, take, sym, ap}
use Rattle.limbo_resolver.specs.Held.{with_one}
use Rattle.limbo_resolver.proofs.Filling.{join_step, joined_front, with_held}
use Rattle.limbo_resolver.proofs.keys.push_new.Goals as goal
use Rattle.limbo_resolver.proofs.keys.push_new.Goals.{then-not-contains+in_ok-copy+in_ok-insert, else-not-contains}

pub returns-in_err-copy-clause-front : goal.returns-in_err-copy-clause-front
returns-in_err-copy-clause-front c = ap (take (length c.args.keys.now.keys)) c.loop-key.invariant ∙ joined_front c.args.keys.now.keys (take c.loop-key.key-index c.args.wanted.now)

pub returns-in_err-insert-clause-front : goal.returns-in_err-insert-clause-front
returns-in_err-insert-clause-front c =
    ap (take (length c.args.keys.now.keys)) (c.in_err-insert.ensures.err ∙ c.loop-key.invariant) ∙ joined_front c.args.keys.now.keys (take c.loop-key.key-index c.args.wanted.now)

pub loop-key-preserved : goal.loop-key-preserved
loop-key-preserved c =
    let step = join_step c.args.keys.now.keys c.loop-key.keys.keys c.args.wanted.now c.loop-key.key-index c.key-item.result c.loop-key-test.true c.key-item.is c.loop-key.invariant in
    elim c.if-not-contains.branch [
      | then-not-contains+in_ok-copy+in_ok-insert w ↦ ap (λ s. s.keys) w.keys-is ∙ w.in_ok-insert.ensures.keys ∙ ap (with_one c.loop-key.keys.keys) w.in_ok-copy.ensures ∙ step
      | else-not-contains w ↦ ap (λ s. s.keys) w.keys-is ∙ sym (with_held c.loop-key.keys.keys c.key-item.result (sym c.contains.ensures ∙ w.if-not-contains.false)) ∙ step
    ]

pub returns-clause-front : goal.returns-clause-front
returns-clause-front c = ap (take (length c.args.keys.now.keys)) c.loop-key.invariant ∙ joined_front c.args.keys.now.keys (take c.loop-key.key-index c.args.wanted.now)
