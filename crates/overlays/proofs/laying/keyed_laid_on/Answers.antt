use Rattle.std.proofs.Common.{◌≡◌, ◌∙◌, ◌+◌, ◌<◌, ◌≤◌, List, true, get_or, length, sym, ap, subst, arith}
use Rattle.document_keys.specs.KeySet.{is_key}
use Rattle.keyed_writes.specs.Keyed.{IsNext}
use Rattle.mutations.specs.Written.{written_key}
use Rattle.keyed_writes.proofs.Passing.{next_at}
use Rattle.mutations.specs.declared.write.Write.{Write}
use Rattle.overlays.specs.LocalDocument.{after_writes}
use Rattle.overlays.proofs.Naming.{all_written, written_on, written_up_to}
use Rattle.overlays.proofs.laying.keyed_laid_on.Goals as goal

pub loop-place-init : goal.loop-place-init
loop-place-init c =
    let next = c.first-place.ensures in
    record {
      within = next.within;
      of_key = next.there;
      so_far = sym (written_up_to c.args.key.now c.args.at c.args.writes.now c.args.document 0 c.first-place.result next);
    }

pub loop-place-preserved : goal.loop-place-preserved
loop-place-preserved c =
    let writes = c.args.writes.now in
    let key = c.args.key.now in
    let at = c.args.at in
    let place = c.loop-place.place in
    let w = c.index-all-place.result in
    let below : place < length writes = subst (λ (ws : List Write). place < length ws) c.as_slice-all.ensures c.loop-place-test.true in
    let is : w ≡ get_or writes place w = subst (λ (ws : List Write). w ≡ get_or ws place w) c.as_slice-all.ensures c.index-all-place.is in
    let named : is_key (written_key w) key ≡ true = ap (λ x. is_key (written_key x) key) is ∙ c.loop-place.invariant.of_key w below in
    let next : IsNext writes key (place + 1) c.after-place.result =
    next_at writes key w (place + 1) c.after-place.result named (subst (λ x. IsNext writes (written_key x) (place + 1) c.after-place.result) (sym is) (c.after-place.ensures w)) in
    record {
      within = next.within;
      of_key = next.there;
      so_far = sym (written_up_to key at writes c.apply_local.new.doc (place + 1) c.after-place.result next)
          ∙ written_on key at writes place w c.loop-place.document c.apply_local.new.doc (after_writes key at c.args.document writes) below is named c.in_ok-apply_local.ensures.exact c.loop-place.invariant.so_far;
    }

pub loop-place-smaller : goal.loop-place-smaller
loop-place-smaller c =
    let below : c.loop-place.place < length c.args.writes.now = subst (λ (ws : List Write). c.loop-place.place < length ws) c.as_slice-all.ensures c.loop-place-test.true in
    let behind = (c.after-place.ensures c.index-all-place.result).behind in
    omega (arith, below, behind)

pub returns : goal.returns
returns c =
    all_written c.args.key.now c.args.at c.args.writes.now c.loop-place.document c.loop-place.place (subst (λ (ws : List Write). length ws ≤ c.loop-place.place) c.as_slice-all.ensures c.loop-place-test.false)
    ∙ c.loop-place.invariant.so_far
