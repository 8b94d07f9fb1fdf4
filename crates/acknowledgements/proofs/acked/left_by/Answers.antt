use Rattle.std.proofs.Common.{◌≡◌, ◌∙◌, ◌+◌, ◌<◌, ◌≤◌, List, true, fold, get_or, length, sym, ap, subst, arith}
use Rattle.document_keys.specs.KeySet.{is_key}
use Rattle.keyed_writes.specs.Keyed.{IsNext}
use Rattle.mutations.specs.Written.{written_key}
use Rattle.keyed_writes.proofs.Passing.{next_at}
use Rattle.mutations.proofs.Fitting.{fit_one}
use Rattle.mutations.specs.Results.{FitsWrite}
use Rattle.mutations.specs.declared.write.Write.{Write}
use Rattle.acknowledgements.specs.Acked.{left_after}
use Rattle.acknowledgements.proofs.Steps.{left_on, left_up_to, none_left, within}
use Rattle.acknowledgements.proofs.acked.left_by.Goals as goal

pub bounds-results-place : goal.bounds-results-place
bounds-results-place c =
    within c.args.writes.now c.args.results.now c.loop-place.place c.requires.fits (subst (λ (ws : List Write). c.loop-place.place < length ws) c.as_slice-all.ensures c.loop-place-test.true)

pub apply_result-requires-clause-fits : goal.apply_result-requires-clause-fits
apply_result-requires-clause-fits c =
    let writes = c.args.writes.now in
    let place = c.loop-place.place in
    let w = c.index-all-place.result in
    let below : place < length writes = subst (λ (ws : List Write). place < length ws) c.as_slice-all.ensures c.loop-place-test.true in
    let is : w ≡ get_or writes place w = subst (λ (ws : List Write). w ≡ get_or ws place w) c.as_slice-all.ensures c.index-all-place.is in
    fit_one FitsWrite writes c.args.results.now place w c.index-results-place.result below is c.index-results-place.is c.requires.fits

pub loop-place-init : goal.loop-place-init
loop-place-init c =
    let next = c.first-place.ensures in
    record {
      within = next.within;
      of_key = next.there;
      so_far = sym (left_up_to c.args.key.now c.args.version c.args.writes.now c.args.results.now 0 c.first-place.result c.args.entry c.requires.fits next);
    }

pub loop-place-preserved : goal.loop-place-preserved
loop-place-preserved c =
    let writes = c.args.writes.now in
    let results = c.args.results.now in
    let key = c.args.key.now in
    let place = c.loop-place.place in
    let w = c.index-all-place.result in
    let below : place < length writes = subst (λ (ws : List Write). place < length ws) c.as_slice-all.ensures c.loop-place-test.true in
    let is : w ≡ get_or writes place w = subst (λ (ws : List Write). w ≡ get_or ws place w) c.as_slice-all.ensures c.index-all-place.is in
    let named : is_key (written_key w) key ≡ true = ap (λ x. is_key (written_key x) key) is ∙ c.loop-place.invariant.of_key w below in
    let next : IsNext writes key (place + 1) c.after-place.result =
    next_at writes key w (place + 1) c.after-place.result named (subst (λ x. IsNext writes (written_key x) (place + 1) c.after-place.result) (sym is) (c.after-place.ensures w)) in
    record {
      within = next.within;
      of_key = next.there;
      so_far = sym (left_up_to key c.args.version writes results (place + 1) c.after-place.result c.apply_result.new.entry c.requires.fits next)
          ∙ left_on key c.args.version writes results place w c.index-results-place.result c.args.entry c.loop-place.left c.apply_result.new.entry below
          (within writes results place c.requires.fits below) is c.index-results-place.is named c.in_ok-apply_result.ensures.done c.loop-place.invariant.so_far;
    }

pub loop-place-smaller : goal.loop-place-smaller
loop-place-smaller c =
    let below : c.loop-place.place < length c.args.writes.now = subst (λ (ws : List Write). c.loop-place.place < length ws) c.as_slice-all.ensures c.loop-place-test.true in
    let behind = (c.after-place.ensures c.index-all-place.result).behind in
    omega (arith, below, behind)

pub returns : goal.returns
returns c =
    ap (λ pairs. fold (left_after c.args.version) c.loop-place.left pairs)
    (sym (none_left c.args.key.now c.args.writes.now c.args.results.now c.loop-place.place (subst (λ (ws : List Write). length ws ≤ c.loop-place.place) c.as_slice-all.ensures c.loop-place-test.false)))
    ∙ c.loop-place.invariant.so_far
