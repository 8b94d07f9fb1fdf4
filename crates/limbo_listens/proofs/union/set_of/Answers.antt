use Rattle.std.proofs.Common.{◌≡◌, ◌∙◌, ◌↔◌, ◌++◌, ◌∷◌, List, [], append_assoc, ap, length, subst, sym}
use Rattle.std.specs.List.{Contains}
use Rattle.std.specs.Vec.Iter.{into_iter_items}
use Rattle.limbo_resolver.specs.Limbo.{Key}
use Rattle.limbo_listens.proofs.Shown.{at_end, one_more}
use Rattle.limbo_listens.proofs.union.set_of.Goals as goal

pub loop-key-preserved : goal.loop-key-preserved
loop-key-preserved c = record {
  split = c.loop-key.invariant.split ∙ ap (λ l. c.loop-key.yielded ++ l) c.in-Some.ensures.steps.0 ∙ sym (append_assoc c.loop-key.yielded (c.in-Some.key ∷ []) (into_iter_items c.next.new.self));
  ascending = c.insert.ensures.ascending;
  members = one_more c.loop-key.yielded c.loop-key.set c.insert.new.self c.in-Some.key c.loop-key.invariant.members c.in_ok-insert.ensures.done;
}

pub returns-clause-members : goal.returns-clause-members
returns-clause-members c =
    let none : length (into_iter_items c.loop-key.key-iterator) ≡ 0 = sym c.loop-key.key-iterator.rest.ok.0 ∙ c.in-None.ensures.steps.0 in
    let all = at_end c.args.keys.items c.loop-key.yielded (into_iter_items c.loop-key.key-iterator) c.loop-key.invariant.split none in
    λ key. subst (λ (l : List Key). Contains c.loop-key.set key ↔ Contains l key) all (c.loop-key.invariant.members key)
