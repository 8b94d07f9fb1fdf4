use Rattle.std.proofs.Common.{◌≡◌, ◌∙◌, Bool, Some, cond, take, option_map, sym, ap}
use Rattle.document_keys.specs.KeySet.{is_key}
use Rattle.mutation_queue.proofs.Tables.{same_test}
use Rattle.durable_state.specs.News.{put_at}
use Rattle.durable_state.proofs.Newest.{put_more}
use Rattle.durable_state.proofs.news.last_entry.Goals as goal
use Rattle.durable_state.proofs.news.last_entry.Goals.{then-eq, else-eq}

pub loop-change-preserved : goal.loop-change-preserved
loop-change-preserved c =
    let change = c.change-item.result in
    let key = c.args.key.now in
    let i = c.loop-change.change-index in
    let more = put_more c.args.changes.now i change key c.loop-change-test.true c.change-item.is in
    let same : c.eq.result ≡ is_key change.key key = c.eq.ensures ∙ ap (λ test. test change.key key) same_test in
    elim c.if-eq.branch [
      | then-eq w ↦ ap (option_map (λ e. e.now)) w.found-is ∙ sym (more ∙ ap (λ (b : Bool). cond b (Some change.entry) (put_at (take i c.args.changes.now) key)) (sym same ∙ w.if-eq.true))
      | else-eq w ↦ ap (option_map (λ e. e.now)) w.found-is ∙ c.loop-change.invariant ∙ sym (more ∙ ap (λ (b : Bool). cond b (Some change.entry) (put_at (take i c.args.changes.now) key)) (sym same ∙ w.if-eq.false))
    ]
