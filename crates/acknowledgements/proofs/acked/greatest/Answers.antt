use Rattle.std.proofs.Common.{◌≡◌, ◌∙◌, ◌+◌, ◌<◌, ◌≤◌, List, true, None, fold, get_or, length, sym, ap, subst, arith}
use Rattle.std.proofs.lemmas.List.{get_or_default}
use Rattle.document_keys.specs.KeySet.{is_key}
use Rattle.keyed_writes.specs.Keyed.{IsNext}
use Rattle.keyed_writes.proofs.Passing.{first_of, next_at}
use Rattle.mutations.specs.declared.write.Write.{Write}
use Rattle.acknowledgements.specs.Acked.{latest, versions}
use Rattle.mutations.specs.Written.{written_key}
use Rattle.acknowledgements.proofs.Steps.{later_on, later_up_to, none_left, within}
use Rattle.acknowledgements.proofs.acked.greatest.Goals as goal

pub bounds-results-place : goal.bounds-results-place
bounds-results-place c =
    within c.args.writes.now c.args.results.now c.loop-place.place c.requires (subst (λ (ws : List Write). c.loop-place.place < length ws) c.as_slice-count.ensures c.loop-place-test.true)

pub loop-place-init : goal.loop-place-init
loop-place-init c =
    let next = c.first-place.ensures in
    record {
      within = next.within;
      of_key = next.there;
      so_far = sym (later_up_to c.args.key.now c.args.writes.now c.args.results.now c.args.commit 0 c.first-place.result None c.requires next);
    }

pub loop-place-preserved : goal.loop-place-preserved
loop-place-preserved c =
    let writes = c.args.writes.now in
    let key = c.args.key.now in
    let place = c.loop-place.place in
    let below : place < length writes = subst (λ (ws : List Write). place < length ws) c.as_slice-count.ensures c.loop-place-test.true in
    let some : Write = first_of writes place below in
    let w : Write = get_or writes place some in
    let is : w ≡ get_or writes place w = get_or_default writes place some w below in
    let named : is_key (written_key w) key ≡ true = c.loop-place.invariant.of_key some below in
    let next : IsNext writes key (place + 1) c.after-place.result = next_at writes key w (place + 1) c.after-place.result named (c.after-place.ensures some) in
    record {
      within = next.within;
      of_key = next.there;
      so_far = sym (later_up_to key writes c.args.results.now c.args.commit (place + 1) c.after-place.result c.latest-found.result c.requires next)
          ∙ later_on key writes c.args.results.now c.args.commit c.version-version.result place w c.index-results-place.result c.loop-place.found c.latest-found.result below
          (within writes c.args.results.now place c.requires below) is c.index-results-place.is named c.version-version.ensures c.latest-found.ensures c.loop-place.invariant.so_far;
    }

pub loop-place-smaller : goal.loop-place-smaller
loop-place-smaller c =
    let writes = c.args.writes.now in
    let below : c.loop-place.place < length writes = subst (λ (ws : List Write). c.loop-place.place < length ws) c.as_slice-count.ensures c.loop-place-test.true in
    let behind = (c.after-place.ensures (first_of writes c.loop-place.place below)).behind in
    omega (arith, below, behind)

pub returns : goal.returns
returns c =
    ap (λ pairs. fold latest c.loop-place.found (versions c.args.commit pairs))
    (sym (none_left c.args.key.now c.args.writes.now c.args.results.now c.loop-place.place (subst (λ (ws : List Write). length ws ≤ c.loop-place.place) c.as_slice-count.ensures c.loop-place-test.false)))
    ∙ c.loop-place.invariant.so_far
