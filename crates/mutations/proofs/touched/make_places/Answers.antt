use Rattle.std.proofs.Common.{◌∙◌, sym, subst}
use Rattle.mutations.specs.Touched.{HasName, HasNames}
use Rattle.mutations.proofs.Touching.{among, named_so, seen_all, there_more}
use Rattle.mutations.proofs.touched.make_places.Goals as goal

pub make_place-requires : goal.make_place-requires
make_place-requires c = named_so c.as_slice-named-items.result.now c.args.names.now c.as_slice-named-items.ensures.shown c.loop-named.named-index c.named-item.result c.loop-named-test.true c.named-item.is c.as_slice-named-items.ensures.fields

pub returns-in_err-make_place-clause-grown : goal.returns-in_err-make_place-clause-grown
returns-in_err-make_place-clause-grown c old so = c.make_place.ensures.grown old (c.loop-named.invariant.grown old so)

pub returns-in_err-make_place-clause-within : goal.returns-in_err-make_place-clause-within
returns-in_err-make_place-clause-within c name not =
    let here = among c.as_slice-named-items.result.now c.args.names.now c.as_slice-named-items.ensures.shown c.loop-named.named-index c.named-item.result c.loop-named-test.true c.named-item.is in
    c.make_place.ensures.within name (λ same. not (subst (HasName c.args.names.now) (sym same) here)) ∙ c.loop-named.invariant.within name not

pub loop-named-preserved : goal.loop-named-preserved
loop-named-preserved c =
    let here = among c.as_slice-named-items.result.now c.args.names.now c.as_slice-named-items.ensures.shown c.loop-named.named-index c.named-item.result c.loop-named-test.true c.named-item.is in
    record {
      there = there_more c.as_slice-named-items.result.now c.loop-named.named-index c.named-item.result c.loop-named-test.true c.named-item.is c.loop-named.fields c.make_place.new.fields c.make_place.ensures.kept c.in_ok-make_place.ensures.there c.loop-named.invariant.there;
      grown = λ old so. c.make_place.ensures.grown old (c.loop-named.invariant.grown old so);
      within = λ name not. c.make_place.ensures.within name (λ same. not (subst (HasName c.args.names.now) (sym same) here)) ∙ c.loop-named.invariant.within name not;
    }

pub returns-clause-there : goal.returns-clause-there
returns-clause-there c = subst (HasNames c.loop-named.fields) (seen_all c.as_slice-named-items.result.now c.args.names.now c.as_slice-named-items.ensures.shown c.loop-named.named-index c.loop-named-test.false) c.loop-named.invariant.there
