use Rattle.std.proofs.Common.{◌≡◌, ◌∙◌, Some, IsTrue, ap, refl, sym, subst}
use Rattle.std.specs.Option.{option_map}
use Rattle.queries.specs.declared.target.Target.{Target}
use Rattle.views.specs.Viewed.{Viewed}
use Rattle.listeners.specs.Places.{place_of, stands_at}
use Rattle.listeners.specs.Table.{Listening}
use Rattle.listeners.proofs.Indexed.{indexed_after}
use Rattle.listeners.proofs.Refreshed.{target_stays}
use Rattle.listeners.proofs.Standing.{is_there}
use Rattle.listeners.proofs.Tabled.{heard, targets_stay, views_change}
use Rattle.listeners.proofs.Targeted.{targeted_same}
use Rattle.listeners.proofs.listeners.Listeners.refresh.Goals as goal

pub invariant_of-self : goal.invariant_of-self
invariant_of-self g c =
    let old = c.self.inside.listeners.entries in
    let new = (c.get_mut.follows.lender c.refresh.new.self).entries in
    let index = c.self.inside.indexes.places.ids.entries in
    let targets = c.self.inside.indexes.targets.ids.entries in
    let was : heard old c.args.id ≡ Some c.in-Some.listener.now = sym c.in-Some.ensures.value in
    let wrote = (c.get_mut.follows.holds c.refresh.new.self).3 (is_there _ _ was) in
    let stays = target_stays c.args.root.now (g.D.Documents.documents c.args.docs.now) (g.D.Documents.touched_keys c.args.docs.now) c.args.standing.now c.args.may_start c.in-Some.listener.now.view c.refresh.new.self.view c.refresh.result c.refresh.ensures.done c.refresh.ensures.undone in
    record {
      indexed = indexed_after old new index index c.args.id (Some c.refresh.new.self.view) (views_change old new c.args.id (Some c.refresh.new.self) wrote.0 (Some c.refresh.new.self.view) refl) c.self.invariant.indexed
          (λ place q other there. there)
          (λ view is.
          let same : c.refresh.new.self.view ≡ view = cc in
          subst (λ (v : Viewed). IsTrue (stands_at index (place_of v.target) c.args.id)) same (subst (λ (t : Target). IsTrue (stands_at index (place_of t) c.args.id)) (sym stays) (c.self.invariant.indexed c.args.id c.in-Some.listener.now.view (ap (option_map (λ (l : Listening). l.view)) was))));
      targeted = targeted_same old new targets targets (targets_stay old new c.args.id (Some c.refresh.new.self) wrote.0 (ap Some c.refresh.ensures.target ∙ sym (ap (option_map (λ (l : Listening). l.target_id)) was))) (λ t q. refl) c.self.invariant.targeted;
      filled = c.self.invariant.filled;
    }
