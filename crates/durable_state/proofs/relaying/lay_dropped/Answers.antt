use Rattle.std.proofs.Common.{◌≡◌, ◌∙◌, ◌<◌, List, ℕ, None, length, get_or, refl, sym, ap, subst}
use Rattle.mutation_queue.specs.Queue.{named_keys}
use Rattle.overlays.specs.LocalDocument.{local_document}
use Rattle.durable_state.specs.Documents.{is_among}
use Rattle.durable_state.specs.Ready.{HasDocument}
use Rattle.durable_state.proofs.Relaid.{laid_more, laid_same, passes_more_itself, passes_still_itself, told_among}
use Rattle.durable_state.proofs.relaying.lay_dropped.Goals as goal
use Rattle.durable_state.proofs.relaying.lay_dropped.Goals.{then-names+in_ok-overlay+in_ok-push, else-names}

pub returns-in_err-overlay-clause-same : goal.returns-in_err-overlay-clause-same
returns-in_err-overlay-clause-same c = λ q. c.overlay_over-overlay.ensures.same q ∙ c.loop-key.invariant.same q

pub returns-in_err-push-clause-same : goal.returns-in_err-push-clause-same
returns-in_err-push-clause-same c = λ q. c.overlay_over-overlay.ensures.same q ∙ c.loop-key.invariant.same q

pub loop-key-preserved : goal.loop-key-preserved
loop-key-preserved c =
    let i = c.loop-key.key-index in
    let keys = c.args.keys.now in
    let key = c.key-item.result in
    let batches = c.args.pending.now.batches in
    let named = is_among (named_keys batches) in
    let document = λ (k : List (List ℕ)). local_document k None batches in
    let below : i < length keys = subst (λ (l : List (List (List ℕ))). i < length l) c.as_slice-key-items.ensures c.loop-key-test.true in
    let item : key ≡ get_or keys i key = subst (λ (l : List (List (List ℕ))). key ≡ get_or l i key) c.as_slice-key-items.ensures c.key-item.is in
    let told = told_among c.names.result (named_keys batches) key c.names.ensures in
    elim c.if-names.branch [
      | then-names+in_ok-overlay+in_ok-push w ↦
          let o = w.in_ok-overlay.field-0 in
          let right = w.in_ok-overlay.ensures.document ∙ ap document (sym w.in_ok-overlay.ensures.key) in
          rw (w.overlays-is, w.laid-is) (record {
            same = λ q. w.overlay_over-overlay.ensures.same q ∙ c.loop-key.invariant.same q;
            laid = laid_same (HasDocument document) _ _ _ _ _ refl (passes_more_itself keys i key below item named (told ∙ w.if-names.true))
                (laid_more (HasDocument document) _ _ _ _ _ o key w.in_ok-push.ensures.items w.in_ok-overlay.ensures.key w.overlay_over-overlay.ensures.places w.in_ok-overlay.ensures.place right c.loop-key.invariant.laid);
          })
      | else-names w ↦ rw (w.overlays-is, w.laid-is) (record {
        same = c.loop-key.invariant.same;
        laid = laid_same (HasDocument document) _ _ _ _ _ refl (passes_still_itself keys i key below item named (told ∙ w.if-names.false)) c.loop-key.invariant.laid;
      })
    ]
