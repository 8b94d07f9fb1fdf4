use Rattle.std.proofs.Common.{◌≡◌, ◌∙◌, ◌<◌, ◌≤◌, List, ℕ, IsTrue, take, length, get_or, refl, sym, ap, subst}
use Rattle.std.proofs.lemmas.List.{take_all}
use Rattle.key_table.specs.Table.{has_key}
use Rattle.keyed_writes.specs.Keyed.{IsNext}
use Rattle.mutations.specs.declared.write.Write.{Write}
use Rattle.mutations.specs.Written.{written_key}
use Rattle.overlays.specs.LocalDocument.{after_writes, base_of}
use Rattle.overlays.specs.Table.{shown}
use Rattle.remote_documents.specs.Table.{entries_in}
use Rattle.std.specs.Option.{unwrap_or}
use Rattle.durable_state.specs.Cached.{cached}
use Rattle.durable_state.specs.Ready.{HasDocument, first_keys}
use Rattle.durable_state.proofs.Firsts.{first_on, first_still}
use Rattle.durable_state.proofs.Relaid.{laid_more, laid_same}
use Rattle.durable_state.proofs.relaying.lay_each.Goals as goal
use Rattle.durable_state.proofs.relaying.lay_each.Goals.{then-first-place+in_ok-overlay+in_ok-push, else-first-place}

pub returns-in_err-overlay-clause-same : goal.returns-in_err-overlay-clause-same
returns-in_err-overlay-clause-same c = λ q. c.overlay_after-overlay.ensures.same q ∙ c.loop-place.invariant.same q

pub returns-in_err-push-clause-same : goal.returns-in_err-push-clause-same
returns-in_err-push-clause-same c = λ q. c.overlay_after-overlay.ensures.same q ∙ c.loop-place.invariant.same q

pub returns-clause-laid : goal.returns-clause-laid
returns-clause-laid c =
    let ws = c.args.keyed.now in
    let i = c.loop-place.place in
    let whole : take i ws ≡ ws = take_all i ws (subst (λ (l : List Write). length l ≤ i) c.as_slice-writes.ensures c.loop-place-test.false) in
    laid_same _ _ _ _ _ _ refl (ap first_keys (sym whole)) c.loop-place.invariant.laid

pub loop-place-preserved : goal.loop-place-preserved
loop-place-preserved c =
    let i = c.loop-place.place in
    let ws = c.args.keyed.now in
    let w = c.index-writes-place.result in
    let key = c.key-key.result.now in
    let below : i < length ws = subst (λ (l : List Write). i < length l) c.as_slice-writes.ensures c.loop-place-test.true in
    let item : w ≡ get_or ws i w = subst (λ (l : List Write). w ≡ get_or l i w) c.as_slice-writes.ensures c.index-writes-place.is in
    let next : IsNext ws (written_key w) 0 c.first.result = subst (λ k. IsNext ws k 0 c.first.result) c.key-key.ensures c.first.ensures in
    let base = λ (k : List (List ℕ)). base_of (cached (entries_in c.args.entries.now) k) in
    let document : List (List ℕ) → _ = λ k. after_writes k c.args.at (shown c.args.overlays.now k (base k)) ws in
    elim c.if-first-place.branch [
      | then-first-place+in_ok-overlay+in_ok-push x ↦
          let o = x.in_ok-overlay.field-0 in
          let same = λ (q : List (List ℕ)). x.overlay_after-overlay.ensures.same q ∙ c.loop-place.invariant.same q in
          let right : o.document ≡ document o.key =
          x.in_ok-overlay.ensures.document ∙ ap (λ e. after_writes key c.args.at (shown x.overlay_after-overlay.new.overlays key (base_of e)) ws) x.known-entry.ensures
          ∙ ap (λ f. after_writes key c.args.at (unwrap_or f (base key)) ws) (same key) ∙ ap document (sym x.in_ok-overlay.ensures.key) in
          rw (x.overlays-is, x.laid-is) (record {
            same = same;
            laid = laid_same (HasDocument document) _ _ _ _ _ refl (first_on ws i w below item c.first.result next x.if-first-place.true)
                (laid_more (HasDocument document) _ _ _ _ _ o (written_key w) x.in_ok-push.ensures.items (x.in_ok-overlay.ensures.key ∙ c.key-key.ensures) x.overlay_after-overlay.ensures.places
                (subst (λ k. IsTrue (has_key x.overlay_after-overlay.new.overlays k)) c.key-key.ensures x.in_ok-overlay.ensures.place) right c.loop-place.invariant.laid);
          })
      | else-first-place x ↦ rw (x.overlays-is, x.laid-is) (record {
        same = c.loop-place.invariant.same;
        laid = laid_same (HasDocument document) _ _ _ _ _ refl (first_still ws i w below item c.first.result next x.if-first-place.false) c.loop-place.invariant.laid;
      })
    ]
