use Rattle.std.proofs.Common.{◌∙◌, sym}
use Rattle.std.specs.BTreeMap.{get}
use Rattle.durable_state.specs.Tables.{state_in}
use Rattle.listen_protocol.specs.Calls.{key_cmp}
use Rattle.watch_points.proofs.Put.{put_step}
use Rattle.watch_points.proofs.entries.put_all.Goals as goal

pub loop-key-preserved-in_ok-insert : goal.loop-key-preserved-in_ok-insert
loop-key-preserved-in_ok-insert c = λ k. put_step (state_in c.args.tables.now) c.in-Some.key k c.in-Some.entry (get key_cmp c.loop-key.table k) (get key_cmp c.insert.new.self k) _ _ _ (sym c.is_put.ensures ∙ c.if-is_put.true) (c.in_ok-insert.ensures.updates.0 k) c.in-Some.ensures.steps.0 (c.loop-key.invariant k)

pub loop-key-preserved-in_ok-insert-2 : goal.loop-key-preserved-in_ok-insert-2
loop-key-preserved-in_ok-insert-2 c = λ k. put_step (state_in c.args.tables.now) c.in-Some.key k c.in-Some.entry (get key_cmp c.loop-key.table k) (get key_cmp c.insert.new.self k) _ _ _ (sym c.is_put.ensures ∙ c.if-is_put.true) (c.in_ok-insert.ensures.updates.0 k) c.in-Some.ensures.steps.0 (c.loop-key.invariant k)

pub loop-key-preserved-in_ok-insert-3 : goal.loop-key-preserved-in_ok-insert-3
loop-key-preserved-in_ok-insert-3 c = λ k. put_step (state_in c.args.tables.now) c.in-Some.key k c.in-Some.entry (get key_cmp c.loop-key.table k) (get key_cmp c.insert.new.self k) _ _ _ (sym c.is_put.ensures ∙ c.if-is_put.true) (c.in_ok-insert.ensures.updates.0 k) c.in-Some.ensures.steps.0 (c.loop-key.invariant k)
