use Rattle.std.proofs.Common.{IsTrue, sym, subst, arith, rules}
use Rattle.mutations.specs.Results.{IsResultOf}
use Rattle.mutations.specs.declared.transform.Transform.{Transform}
use Rattle.value_model.specs.Data.{Data}
use Rattle.mutations.proofs.Fitting.{fit_length, fit_more, fit_one, is_true}
use Rattle.mutations.proofs.results.fit_transforms.Goals as goal

abbrev Fits : Transform → Data → Type 0
Fits transform value = IsResultOf transform.change value

pub returns-then-transforms-values : goal.returns-then-transforms-values
returns-then-transforms-values c = (λ never. search rules, λ fits. absurd (omega (arith, fit_length Fits c.args.transforms.now c.args.values.now fits, c.if-transforms-values.true)))

pub returns-then-not-is_result_of : goal.returns-then-not-is_result_of
returns-then-not-is_result_of c = (λ never. search rules, λ fits. subst IsTrue c.if-not-is_result_of.true (c.is_result_of.ensures.1 (fit_one Fits c.args.transforms.now c.args.values.now c.loop-place.place c.index-transforms-place.result c.index-values-place.result c.loop-place-test.true c.index-transforms-place.is c.index-values-place.is fits)))

pub loop-place-preserved : goal.loop-place-preserved
loop-place-preserved c = fit_more Fits c.args.transforms.now c.args.values.now c.loop-place.place c.index-transforms-place.result c.index-values-place.result c.loop-place-test.true (omega (arith, c.loop-place-test.true, c.if-transforms-values.false)) c.index-transforms-place.is c.index-values-place.is (c.is_result_of.ensures.0 (subst IsTrue (sym c.if-not-is_result_of.false) is_true)) c.loop-place.invariant
