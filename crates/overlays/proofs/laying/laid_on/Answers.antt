use Rattle.std.proofs.Common.{◌≡◌, ◌∙◌, ◌<◌, cond, length, get_or, ap, sym, subst}
use Rattle.document_keys.specs.KeySet.{is_key}
use Rattle.mutations.specs.Local.{effect}
use Rattle.mutations.specs.Written.{written_key}
use Rattle.mutation_queue.proofs.Tables.{same_test}
use Rattle.overlays.specs.LocalDocument.{after_write}
use Rattle.overlays.proofs.Naming.{written_more}
use Rattle.overlays.proofs.laying.laid_on.Goals as goal
use Rattle.overlays.proofs.laying.laid_on.Goals.{then-eq+in_ok-apply_local, else-eq}

pub loop-write-preserved : goal.loop-write-preserved
loop-write-preserved c =
    let key = c.args.key.now in
    let item = c.write-item.result in
    let same : c.eq.result ≡ is_key (written_key item) key = rw (c.eq.ensures, c.key.ensures) (ap (λ test. test (written_key item) key) same_test) in
    let at = c.args.batch.now.at in
    let writes = c.args.batch.now.writes in
    let below = subst (λ l. c.loop-write.write-index < length l) c.as_slice-write-items.ensures c.loop-write-test.true in
    let is = subst (λ l. item ≡ get_or l c.loop-write.write-index item) c.as_slice-write-items.ensures c.write-item.is in
    let more = ap (λ d. after_write key at d item) c.loop-write.invariant ∙ written_more key at c.args.document writes c.loop-write.write-index item below is in
    elim c.if-eq.branch [
      | then-eq+in_ok-apply_local w ↦ w.document-is ∙ w.in_ok-apply_local.ensures.exact ∙ ap (λ b. cond b (effect c.loop-write.document item at) c.loop-write.document) (sym w.if-eq.true ∙ same) ∙ more
      | else-eq w ↦ w.document-is ∙ ap (λ b. cond b (effect c.loop-write.document item at) c.loop-write.document) (sym w.if-eq.false ∙ same) ∙ more
    ]
