use Rattle.std.proofs.Common.{◌≡◌, ◌∙◌, false, None, Some, IsTrue, ap, refl, subst}
use Rattle.views.specs.Viewed.{Viewed}
use Rattle.listeners.specs.Places.{place_of, stands_at}
use Rattle.listeners.specs.Table.{Listening, viewed}
use Rattle.listeners.specs.Targets.{SetsServed}
use Rattle.listeners.proofs.Indexed.{indexed_after, indexed_without}
use Rattle.listeners.proofs.Tabled.{no_target, same_targets, targets_change, views_change}
use Rattle.listeners.proofs.Targeted.{taken_again, targeted_added, targeted_same}
use Rattle.listeners.proofs.listeners.Listeners.add.Goals as goal

pub invariant_of-self : goal.invariant_of-self
invariant_of-self c =
    let table = c.self.inside.listeners.entries in
    let none : viewed table c.args.id ≡ None = ap (λ t. viewed t c.args.id) c.self.view_is ∙ c.requires in
    record {
      indexed = indexed_without table table c.self.inside.indexes.places.ids.entries c.put.new.self.places.ids.entries c.args.id refl none c.put.ensures.kept c.self.invariant.indexed;
      targeted = targeted_same table table c.self.inside.indexes.targets.ids.entries c.put.new.self.targets.ids.entries (λ q. refl) c.in_err-put.ensures.undone c.self.invariant.targeted;
      filled = c.put.ensures.filled c.self.invariant.filled;
    }

pub invariant_of-self-in-Ok : goal.invariant_of-self-in-Ok
invariant_of-self-in-Ok c =
    let old = c.self.inside.listeners.entries in
    let new = c.put_listener.new.listeners.entries in
    let listener = c.in_ok-listener.listener in
    let index = c.put.new.self.places.ids.entries in
    let none : viewed old c.args.id ≡ None = ap (λ t. viewed t c.args.id) c.self.view_is ∙ c.requires in
    record {
      indexed = indexed_after old new c.self.inside.indexes.places.ids.entries index c.args.id (Some listener.view) (views_change old new c.args.id (Some listener) c.in-Ok.ensures.put (Some listener.view) refl) c.self.invariant.indexed c.put.ensures.kept
          (λ view is.
          let same : listener.view ≡ view = cc in
          subst (λ (v : Viewed). IsTrue (stands_at index (place_of v.target) c.args.id)) same c.in_ok-put.ensures.place);
      targeted = targeted_added old new c.self.inside.indexes.targets.ids.entries c.put.new.self.targets.ids.entries listener.target_id c.args.id (targets_change old new c.args.id (Some listener) c.in-Ok.ensures.put (Some listener.target_id) refl)
          c.in_ok-put.ensures.target (no_target old c.args.id none) c.self.invariant.targeted;
      filled = c.put.ensures.filled c.self.invariant.filled;
    }

pub invariant_of-self-in-Err : goal.invariant_of-self-in-Err
invariant_of-self-in-Err c =
    let old = c.self.inside.listeners.entries in
    let new = c.put_listener.new.listeners.entries in
    let listener = c.in_ok-listener.listener in
    let targets = c.self.inside.indexes.targets.ids.entries in
    let mid = c.put.new.self.targets.ids.entries in
    let after = c.take.new.self.targets.ids.entries in
    let none : viewed old c.args.id ≡ None = ap (λ t. viewed t c.args.id) c.self.view_is ∙ c.requires in
    let back : SetsServed listener.target_id c.args.id false mid after = subst (λ (l : Listening). SetsServed l.target_id c.args.id false mid after) c.in-Err.ensures.kept.0 c.take.ensures.target in
    record {
      indexed = indexed_without old new c.self.inside.indexes.places.ids.entries c.take.new.self.places.ids.entries c.args.id c.in-Err.ensures.kept.1 none
          (λ place q other there. c.take.ensures.kept place q other (c.put.ensures.kept place q other there)) c.self.invariant.indexed;
      targeted = targeted_same old new targets after (same_targets old new c.in-Err.ensures.kept.1) (taken_again old targets mid after listener.target_id c.args.id c.in_ok-put.ensures.target back (no_target old c.args.id none) c.self.invariant.targeted) c.self.invariant.targeted;
      filled = c.take.ensures.filled (c.put.ensures.filled c.self.invariant.filled);
    }
