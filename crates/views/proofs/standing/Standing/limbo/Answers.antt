use Rattle.std.proofs.Common.{◌∷◌, ◌++◌, ◌∙◌, ◌+◌, [], IsTrue, Vec, Global, take, ap, refl, subst, sym}
use Rattle.document_keys.specs.declared.key.DocumentKey.{DocumentKey}
use Rattle.views.specs.Limbo.{IsInLimbo}
use Rattle.views.specs.Picks.{Picks}
use Rattle.views.proofs.Telling.{leaves_next, picks_next, picks_nothing}
use Rattle.views.proofs.standing.Standing.limbo.Goals as goal
use Rattle.views.proofs.standing.Standing.limbo.Goals.{then-has_in_limbo+in_ok-copy+in_ok-push, else-has_in_limbo}

pub loop-key-init : goal.loop-key-init
loop-key-init g c = picks_nothing _ _ refl c.new-limbo.ensures.items

pub loop-key-preserved : goal.loop-key-preserved
loop-key-preserved g c =
    let keys = c.args.shown.now in
    let i = c.loop-key.key-index in
    let key = c.key-item.result in
    let limbo = c.loop-key.limbo.items in
    let result = λ (vec : Vec DocumentKey Global). Picks (IsInLimbo c.args.self.now (g.D.Documents.touched_keys c.args.docs.now)) (take (i + 1) keys) vec.items in
    elim c.if-has_in_limbo.branch [
      | then-has_in_limbo+in_ok-copy+in_ok-push w ↦
          let yes : IsTrue c.has_in_limbo.result = cc in
          let is = picks_next keys limbo i key c.loop-key-test.true c.key-item.is c.loop-key.invariant (c.has_in_limbo.ensures.0 yes) in
          let items = w.in_ok-push.ensures.items ∙ ap (λ k. limbo ++ k ∷ []) w.in_ok-copy.ensures in
          subst result (sym w.limbo-is) (subst (Picks (IsInLimbo c.args.self.now (g.D.Documents.touched_keys c.args.docs.now)) (take (i + 1) keys)) (sym items) is)
      | else-has_in_limbo w ↦
          let never : IsTrue c.has_in_limbo.result → ⊥ = λ yes. cc in
          subst result (sym w.limbo-is) (leaves_next keys limbo i key c.loop-key-test.true c.key-item.is c.loop-key.invariant (λ is. never (c.has_in_limbo.ensures.1 is)))
    ]
