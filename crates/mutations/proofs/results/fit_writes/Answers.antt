use Rattle.std.proofs.Common.{IsTrue, sym, subst, arith, rules}
use Rattle.mutations.specs.Results.{FitsWrite}
use Rattle.mutations.proofs.Fitting.{fit_length, fit_more, fit_one, is_true}
use Rattle.mutations.proofs.results.fit_writes.Goals as goal

pub returns-then-writes-results : goal.returns-then-writes-results
returns-then-writes-results c = (λ never. search rules, λ fits. absurd (omega (arith, fit_length FitsWrite c.args.writes.now c.args.results.now fits, c.if-writes-results.true)))

pub returns-then-not-fits : goal.returns-then-not-fits
returns-then-not-fits c = (λ never. search rules, λ fits. subst IsTrue c.if-not-fits.true (c.fits.ensures.1 (fit_one FitsWrite c.args.writes.now c.args.results.now c.loop-place.place c.index-writes-place.result c.index-results-place.result c.loop-place-test.true c.index-writes-place.is c.index-results-place.is fits)))

pub loop-place-preserved : goal.loop-place-preserved
loop-place-preserved c = fit_more FitsWrite c.args.writes.now c.args.results.now c.loop-place.place c.index-writes-place.result c.index-results-place.result c.loop-place-test.true (omega (arith, c.loop-place-test.true, c.if-writes-results.false)) c.index-writes-place.is c.index-results-place.is (c.fits.ensures.0 (subst IsTrue (sym c.if-not-fits.false) is_true)) c.loop-place.invariant
