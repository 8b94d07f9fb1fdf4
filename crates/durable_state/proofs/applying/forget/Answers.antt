use Rattle.std.proofs.Common.{◌≡◌, ◌∙◌, ◌<◌, None, ℕ, List, length, get_or, sym, ap, subst}
use Rattle.remote_documents.specs.Table.{entries_in}
use Rattle.durable_state.specs.Cached.{with_changed}
use Rattle.durable_state.proofs.Changed.{change_is, dropped_more}
use Rattle.durable_state.proofs.applying.forget.Goals as goal

pub loop-key-preserved : goal.loop-key-preserved
loop-key-preserved c =
    let keys = c.args.keys.now in
    let i = c.loop-key.key-index in
    let k = c.key-item.result in
    let below : i < length keys = subst (λ (l : List (List (List ℕ))). i < length l) c.as_slice-key-items.ensures c.loop-key-test.true in
    let item : k ≡ get_or keys i k = subst (λ (l : List (List (List ℕ))). k ≡ get_or l i k) c.as_slice-key-items.ensures c.key-item.is in record {
      is = change_is c.loop-key.entries c.remove.new.self (k, None) c.loop-key.invariant.map c.is_map.ensures c.remove.ensures.done
          ∙ ap (λ m. with_changed m (k, None)) c.loop-key.invariant.is ∙ sym (dropped_more (entries_in c.args.entries.now) keys i k below item);
      map = c.is_map.ensures;
    }
