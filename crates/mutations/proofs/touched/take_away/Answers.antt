use Rattle.std.proofs.Common.{◌≡◌, ℕ, List, None, subst}
use Rattle.value_model.specs.Fields.{field}
use Rattle.mutations.specs.Touched.{HasName, SameBeside}
use Rattle.mutations.proofs.Touching.{beside_more, gone_more, removed_but, removed_is, seen_all}
use Rattle.mutations.proofs.touched.take_away.Goals as goal

pub loop-named-preserved : goal.loop-named-preserved
loop-named-preserved c =
    let removed = rw c.as_str.ensures at c.remove.ensures.done in
    let but = removed_but c.loop-named.fields c.remove.new.self c.named-item.result.name removed in
    record {
      gone = gone_more c.as_slice-named-items.result.now c.loop-named.named-index c.named-item.result c.loop-named-test.true c.named-item.is c.loop-named.fields c.remove.new.self but (removed_is c.loop-named.fields c.remove.new.self c.named-item.result.name c.loop-named.invariant.fields removed) c.loop-named.invariant.gone;
      others = beside_more c.as_slice-named-items.result.now c.loop-named.named-index c.named-item.result c.loop-named-test.true c.named-item.is c.loop-named.fields c.remove.new.self c.args.fields.now but c.loop-named.invariant.others;
      fields = c.remove.ensures.fields;
    }

pub returns-clause-gone : goal.returns-clause-gone
returns-clause-gone c = subst (λ names. (name : List ℕ) → HasName names name → field c.loop-named.fields name ≡ None) (seen_all c.as_slice-named-items.result.now c.args.names.now c.as_slice-named-items.ensures.shown c.loop-named.named-index c.loop-named-test.false) c.loop-named.invariant.gone

pub returns-clause-others : goal.returns-clause-others
returns-clause-others c = subst (λ names. SameBeside names c.loop-named.fields c.args.fields.now) (seen_all c.as_slice-named-items.result.now c.args.names.now c.as_slice-named-items.ensures.shown c.loop-named.named-index c.loop-named-test.false) c.loop-named.invariant.others
