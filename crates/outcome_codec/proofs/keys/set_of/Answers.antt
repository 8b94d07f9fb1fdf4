use Rattle.std.proofs.Common.{◌≡◌, ◌∙◌, ◌∷◌, ◌++◌, [], length, arith, ap, sym, subst, append_assoc}
use Rattle.std.specs.Vec.Iter.{into_iter_items}
use Rattle.std.proofs.lemmas.List.{append-nil, nil_from_length}
use Rattle.document_keys.specs.KeySet.{IsAscending}
use Rattle.document_keys.proofs.Exact.{same_keys}
use Rattle.outcome_codec.proofs.Adjacents.{members_more}
use Rattle.outcome_codec.proofs.keys.set_of.Goals as goal

pub loop-key-preserved : goal.loop-key-preserved
loop-key-preserved c = record {
  split = c.loop-key.invariant.split ∙ ap (λ l. c.loop-key.yielded ++ l) c.in-Some.ensures.steps.0 ∙ sym (append_assoc c.loop-key.yielded (c.in-Some.key ∷ []) (into_iter_items c.next.new.self));
  members = members_more c.in-Some.key c.loop-key.set c.insert.new.self c.loop-key.yielded c.in_ok-insert.ensures.done c.loop-key.invariant.members;
  ascending = c.insert.ensures.ascending;
  count = omega (arith, ap length c.in-Some.ensures.steps.0, c.in-Some.ensures.steps.1, c.loop-key.invariant.count);
}

pub returns : goal.returns
returns c =
    let none : into_iter_items c.loop-key.key-iterator ≡ [] = nil_from_length (into_iter_items c.loop-key.key-iterator) (sym c.loop-key.invariant.count ∙ c.in-None.ensures.steps.0) in
    let split : c.args.keys.items ≡ c.loop-key.yielded = c.loop-key.invariant.split ∙ ap (λ l. c.loop-key.yielded ++ l) none ∙ append-nil c.loop-key.yielded in
    same_keys c.loop-key.set c.loop-key.yielded c.loop-key.invariant.ascending (subst IsAscending split c.requires) c.loop-key.invariant.members ∙ sym split
