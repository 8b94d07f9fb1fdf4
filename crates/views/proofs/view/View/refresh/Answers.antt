use Rattle.std.proofs.Common.{List, ℕ, Option, sym, subst}
use Rattle.queries.specs.Answer.{IsAnswer}
use Rattle.views.specs.declared.raised.Raised.{Raised}
use Rattle.views.specs.Limbo.{IsFromCache}
use Rattle.views.specs.Refresh.{Refreshes}
use Rattle.views.specs.Viewed.{Viewed}
use Rattle.views.proofs.Refreshing.{is_over, keeps, raises}
use Rattle.views.proofs.view.View.refresh.Goals as goal
use Rattle.views.proofs.view.View.refresh.Goals.{then-raised+in_ok-next, else-raised}

pub returns-clause-done : goal.returns-clause-done
returns-clause-done g c =
    let documents = g.D.Documents.documents c.args.docs.now in
    let touched = g.D.Documents.touched_keys c.args.docs.now in
    let root = c.args.root.now in
    let standing = c.args.standing.now in
    let start = c.args.may_start in
    let old : Viewed = record { target = c.self.inside.query; raised = c.self.inside.raised } in
    let limbo = c.in_ok-limbo.limbo in
    let answer = c.as_slice-keys.result.now in
    let from_cache = c.is_from_cache-from_cache.result in
    let told = c.is_raised-raised.result in
    let is_answer = subst (IsAnswer old.target root documents) (sym c.as_slice-keys.ensures.value) c.in_ok-answer.ensures.answer in
    let flag = subst (λ (keys : List (List (List ℕ))). IsFromCache standing keys from_cache) c.as_slice.ensures.value c.is_from_cache-from_cache.ensures in
    elim c.if-raised.branch [
      | then-raised+in_ok-next w ↦
          subst (λ (v : Viewed). Refreshes root documents touched standing start v c.if-raised.self (record { raised = told; limbo = limbo })) c.self.view_is
          (subst (λ (v : Viewed). Refreshes root documents touched standing start old v (record { raised = told; limbo = limbo })) (sym w.self-is)
          (subst (λ (last : Option Raised). Refreshes root documents touched standing start old (record { target = old.target; raised = last }) (record { raised = told; limbo = limbo })) (sym w.put.ensures)
          (raises root documents touched standing start old limbo answer from_cache is_answer c.in_ok-limbo.ensures flag told c.is_raised-raised.ensures.raises w.if-raised.true w.in_ok-next.next w.in_ok-next.ensures.shows w.in_ok-next.ensures.changes)))
      | else-raised w ↦
          subst (λ (v : Viewed). Refreshes root documents touched standing start c.args.self.now v (record { raised = told; limbo = limbo })) (sym w.self-is)
          (subst (λ (v : Viewed). Refreshes root documents touched standing start v v (record { raised = told; limbo = limbo })) c.self.view_is
          (keeps root documents touched standing start old limbo answer from_cache is_answer c.in_ok-limbo.ensures flag told c.is_raised-raised.ensures.raises w.if-raised.false (c.is_raised-raised.ensures.shows w.if-raised.false)))
    ]

pub returns-clause-over : goal.returns-clause-over
returns-clause-over g c = let done = returns-clause-done g c in is_over (g.D.Documents.documents c.args.docs.now) done.answer done.from_cache c.if-raised.self.raised done.shows
