use Rattle.std.proofs.Common.{◌∙◌, sym, subst}
use Rattle.std.specs.Prelude.{IsSome}
use Rattle.mutations.specs.Touched.{SameAt, SameBeside}
use Rattle.mutations.proofs.Touching.{among, at_more, beside_more, seen_all, unseen}
use Rattle.mutations.proofs.touched.put_back.Goals as goal

pub settle-requires : goal.settle-requires
settle-requires c =
    let items = c.as_slice-named-items.result.now in
    let new = unseen items c.args.names.now c.as_slice-named-items.ensures.shown c.loop-named.named-index c.named-item.result c.loop-named-test.true c.named-item.is c.as_slice-named-items.ensures.fields in
    let here = among items c.args.names.now c.as_slice-named-items.ensures.shown c.loop-named.named-index c.named-item.result c.loop-named-test.true c.named-item.is in
    subst IsSome (sym (c.loop-named.invariant.beside c.named-item.result.name new)) (c.requires c.named-item.result.name here)

pub loop-named-preserved : goal.loop-named-preserved
loop-named-preserved c =
    let items = c.as_slice-named-items.result.now in
    let new = unseen items c.args.names.now c.as_slice-named-items.ensures.shown c.loop-named.named-index c.named-item.result c.loop-named-test.true c.named-item.is c.as_slice-named-items.ensures.fields in
    record {
      here = at_more items c.loop-named.named-index c.named-item.result c.loop-named-test.true c.named-item.is c.loop-named.fields c.settle.new.fields c.args.part (c.settle.ensures.here ∙ c.loop-named.invariant.left c.named-item.result.name new) c.settle.ensures.beside c.loop-named.invariant.here;
      beside = beside_more items c.loop-named.named-index c.named-item.result c.loop-named-test.true c.named-item.is c.loop-named.fields c.settle.new.fields c.args.fields.now c.settle.ensures.beside c.loop-named.invariant.beside;
      left = beside_more items c.loop-named.named-index c.named-item.result c.loop-named-test.true c.named-item.is c.loop-named.part c.settle.new.part c.args.part c.settle.ensures.left c.loop-named.invariant.left;
      fields = c.settle.ensures.fields;
    }

pub returns-clause-here : goal.returns-clause-here
returns-clause-here c = subst (λ names. SameAt names c.loop-named.fields c.args.part) (seen_all c.as_slice-named-items.result.now c.args.names.now c.as_slice-named-items.ensures.shown c.loop-named.named-index c.loop-named-test.false) c.loop-named.invariant.here

pub returns-clause-beside : goal.returns-clause-beside
returns-clause-beside c = subst (λ names. SameBeside names c.loop-named.fields c.args.fields.now) (seen_all c.as_slice-named-items.result.now c.args.names.now c.as_slice-named-items.ensures.shown c.loop-named.named-index c.loop-named-test.false) c.loop-named.invariant.beside
