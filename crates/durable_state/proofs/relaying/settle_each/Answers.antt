use Rattle.std.proofs.Common.{◌≡◌, ◌∙◌, ◌<◌, ◌≤◌, List, ℕ, option_map, not, drop, take, length, get_or, refl, sym, ap, subst}
use Rattle.std.specs.List.{filter}
use Rattle.std.proofs.lemmas.List.{take_all}
use Rattle.keyed_writes.specs.Keyed.{IsNext}
use Rattle.value_model.specs.declared.document.Seal.{Seal}
use Rattle.value_model.specs.declared.document.Seal.TheVariants.{Seen}
use Rattle.mutations.specs.declared.write.Write.{Write}
use Rattle.mutation_queue.specs.Queue.{named_keys}
use Rattle.mutations.specs.Written.{written_key}
use Rattle.overlays.specs.LocalDocument.{base_of, local_document}
use Rattle.remote_documents.specs.Table.{entries_in}
use Rattle.durable_state.specs.Cached.{cached, with_all}
use Rattle.durable_state.specs.Documents.{is_among}
use Rattle.durable_state.specs.Ready.{HasDocument, Settles, first_keys, put_changes}
use Rattle.durable_state.proofs.Firsts.{first_gains, first_still}
use Rattle.durable_state.proofs.Relaid.{laid_same, none_laid, settled}
use Rattle.durable_state.proofs.relaying.settle_each.Goals as goal
use Rattle.durable_state.proofs.relaying.settle_each.Goals.{then-first-place+in_ok-settle, else-first-place}

pub returns-in_err-settle-clause-same : goal.returns-in_err-settle-clause-same
returns-in_err-settle-clause-same c = λ q. c.settle.ensures.same q ∙ c.loop-place.invariant.same q

pub loop-place-init : goal.loop-place-init
loop-place-init c = record {
  same = λ q. refl;
  laid = λ seal. none_laid _ _ _ c.none-relaid.ensures.laid;
  lifted = c.none-relaid.ensures.lifted;
}

pub returns-clause-laid : goal.returns-clause-laid
returns-clause-laid c = λ seal.
    let ws = c.args.keyed.now in
    let i = c.loop-place.place in
    let whole : take i ws ≡ ws = take_all i ws (subst (λ (l : List Write). length l ≤ i) c.as_slice-writes.ensures c.loop-place-test.false) in
    laid_same _ _ _ _ _ _ refl (ap (λ (l : List Write). filter (is_among (named_keys (drop 1 c.args.pending.now.batches))) (first_keys l)) (sym whole)) (c.loop-place.invariant.laid seal)

pub loop-place-preserved : goal.loop-place-preserved
loop-place-preserved c =
    let i = c.loop-place.place in
    let ws = c.args.keyed.now in
    let w = c.index-writes-place.result in
    let below : i < length ws = subst (λ (l : List Write). i < length l) c.as_slice-writes.ensures c.loop-place-test.true in
    let item : w ≡ get_or ws i w = subst (λ (l : List Write). w ≡ get_or l i w) c.as_slice-writes.ensures c.index-writes-place.is in
    let next : IsNext ws (written_key w) 0 c.first.result = subst (λ k. IsNext ws k 0 c.first.result) c.key-key.ensures c.first.ensures in
    let behind = drop 1 c.args.pending.now.batches in
    let entry = λ (seal : Seal) (k : List (List ℕ)). cached (with_all (entries_in c.args.entries.now) (put_changes seal c.args.news.now)) k in
    let document = λ (seal : Seal) (k : List (List ℕ)). local_document k (base_of (entry seal k)) behind in
    let key = written_key w in
    let named = is_among (named_keys behind) in
    elim c.if-first-place.branch [
      | then-first-place+in_ok-settle x ↦
          let becomes = subst (λ k. Settles x.settle.new.overlays behind k (option_map (λ e. e.now) x.known_after-entry.result) c.loop-place.relaid x.settle.new.self) c.key-key.ensures x.in_ok-settle.ensures.settled in
          let both = λ (seal : Seal). settled c.loop-place.overlays x.settle.new.overlays behind (document seal) key _ c.loop-place.relaid x.settle.new.self _ _ becomes x.in_ok-settle.ensures.places
          (ap (λ e. local_document key (base_of e) behind) (sym (x.known_after-entry.ensures seal ∙ ap (entry seal) c.key-key.ensures))) (c.loop-place.invariant.laid seal) c.loop-place.invariant.lifted in
          rw (x.overlays-is, x.relaid-is) (record {
            same = λ q. x.settle.ensures.same q ∙ c.loop-place.invariant.same q;
            laid = λ seal. laid_same (HasDocument (document seal)) _ _ _ _ _ refl (first_gains ws i w below item c.first.result next named x.if-first-place.true) (both seal).0;
            lifted = (both Seen).1 ∙ sym (first_gains ws i w below item c.first.result next (λ k. not (named k)) x.if-first-place.true);
          })
      | else-first-place x ↦
          let still = first_still ws i w below item c.first.result next x.if-first-place.false in
          rw (x.overlays-is, x.relaid-is) (record {
            same = c.loop-place.invariant.same;
            laid = λ seal. laid_same (HasDocument (document seal)) _ _ _ _ _ refl (ap (filter named) still) (c.loop-place.invariant.laid seal);
            lifted = c.loop-place.invariant.lifted ∙ sym (ap (filter (λ k. not (named k))) still);
          })
    ]
