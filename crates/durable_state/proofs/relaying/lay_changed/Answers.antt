use Rattle.std.proofs.Common.{◌∙◌, refl, sym}
use Rattle.mutation_queue.specs.Queue.{named_keys}
use Rattle.outcome_codec.specs.declared.parts.KeyedEntry.{KeyedEntry}
use Rattle.durable_state.specs.Documents.{is_among}
use Rattle.durable_state.specs.Ready.{IsOver}
use Rattle.durable_state.proofs.Relaid.{laid_more, laid_same, passes_more, passes_still, told_among}
use Rattle.durable_state.proofs.relaying.lay_changed.Goals as goal
use Rattle.durable_state.proofs.relaying.lay_changed.Goals.{then-names+in_ok-overlay+in_ok-push, else-names}

pub returns-in_err-overlay-clause-same : goal.returns-in_err-overlay-clause-same
returns-in_err-overlay-clause-same c = λ q. c.overlay_over-overlay.ensures.same q ∙ c.loop-change.invariant.same q

pub returns-in_err-push-clause-same : goal.returns-in_err-push-clause-same
returns-in_err-push-clause-same c = λ q. c.overlay_over-overlay.ensures.same q ∙ c.loop-change.invariant.same q

pub loop-change-preserved : goal.loop-change-preserved
loop-change-preserved c =
    let i = c.loop-change.change-index in
    let cs = c.args.changes.now in
    let change = c.change-item.result in
    let batches = c.args.pending.now.batches in
    let named = is_among (named_keys batches) in
    let told = told_among c.names.result (named_keys batches) change.key c.names.ensures in
    let key_of = λ (x : KeyedEntry). x.key in
    elim c.if-names.branch [
      | then-names+in_ok-overlay+in_ok-push w ↦
          let o = w.in_ok-overlay.field-0 in
          let right : IsOver batches cs o = record { change = change; one = (i, c.loop-change-test.true, sym c.change-item.is); of_key = w.in_ok-overlay.ensures.key; document = w.in_ok-overlay.ensures.document } in
          rw (w.overlays-is, w.laid-is) (record {
            same = λ q. w.overlay_over-overlay.ensures.same q ∙ c.loop-change.invariant.same q;
            laid = laid_same (IsOver batches cs) _ _ _ _ _ refl (passes_more key_of cs i change c.loop-change-test.true c.change-item.is named (told ∙ w.if-names.true))
                (laid_more (IsOver batches cs) _ _ _ _ _ o change.key w.in_ok-push.ensures.items w.in_ok-overlay.ensures.key w.overlay_over-overlay.ensures.places w.in_ok-overlay.ensures.place right c.loop-change.invariant.laid);
          })
      | else-names w ↦ rw (w.overlays-is, w.laid-is) (record {
        same = c.loop-change.invariant.same;
        laid = laid_same (IsOver batches cs) _ _ _ _ _ refl (passes_still key_of cs i change c.loop-change-test.true c.change-item.is named (told ∙ w.if-names.false)) c.loop-change.invariant.laid;
      })
    ]
