use Rattle.std.proofs.Common.{◌≡◌, true, ℤ, List, SFits, w32, pos, get_or, rules, take, Vec, Global, sym, ap, subst, ◌+◌, ◌∙◌, ◌++◌, ◌∷◌, []}
use Rattle.std.proofs.lemmas.Bool.{false≢true}
use Rattle.std.proofs.lemmas.Int.{to_z-of_z}
use Rattle.std.proofs.lemmas.List.Elements.{All-push}
use Rattle.client_turns.specs.LimboListens.{is_running}
use Rattle.listen_protocol.specs.Calls.{Calls}
use Rattle.sync_engine.specs.Requesting.{AllRun, IsListenToAdd, Picked}
use Rattle.sync_engine.proofs.Picking.{item_at, picked_less, picked_one}
use Rattle.sync_engine.proofs.client.Client.added_listens.Goals as goal
use Rattle.sync_engine.proofs.client.Client.added_listens.Goals.{then-is_listen_to_add+in_ok-push, else-is_listen_to_add}

pub loop-target-preserved : goal.loop-target-preserved
loop-target-preserved c =
    let targets = c.args.targets.now in
    let ids = c.loop-target.ids.items in
    let n = c.loop-target.target-index in
    let x = get_or targets n (pos 0) in
    let inside = c.loop-target-test.true in
    let at : x ≡ get_or targets n x = item_at targets n (pos 0) x inside in
    let P = λ (h : Calls). IsListenToAdd c.args.self.now h in
    let are = λ (h : Calls) (l : List ℤ). Picked (P h) (take (n + 1) targets) l in
    elim c.if-is_listen_to_add.branch [
      | then-is_listen_to_add+in_ok-push w ↦
          let fits : SFits w32 x = search rules in
          let is = ap (λ (v : Vec ℤ Global). v.items) w.ids-is ∙ w.in_ok-push.ensures.items ∙ ap (λ (y : ℤ). ids ++ y ∷ []) (to_z-of_z w32 x fits) in
          record {
            running = subst (AllRun c.args.self.now) (sym is) (All-push (λ t. is_running t c.args.self.now.limbo.limbo ≡ true) ids x c.loop-target.invariant.running (c.is_listen_to_add.ensures.running w.if-is_listen_to_add.true));
            picked = λ h stands. subst (are h) (sym is)
                (picked_one (P h) targets ids n x c.requires.ascending inside at (c.loop-target.invariant.picked h stands) ((c.is_listen_to_add.ensures.calls h stands).0 w.if-is_listen_to_add.true));
          }
      | else-is_listen_to_add w ↦
          let is = ap (λ (v : Vec ℤ Global). v.items) w.ids-is in
          record {
            running = subst (AllRun c.args.self.now) (sym is) c.loop-target.invariant.running;
            picked = λ h stands. subst (are h) (sym is)
                (picked_less (P h) targets ids n x c.requires.ascending inside at (c.loop-target.invariant.picked h stands) (λ so. absurd (false≢true (sym w.if-is_listen_to_add.false ∙ (c.is_listen_to_add.ensures.calls h stands).1 so))));
          }
    ]
