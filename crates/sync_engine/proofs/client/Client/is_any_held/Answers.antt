use Rattle.std.proofs.Common.{arith, sym, ◌∙◌}
use Rattle.std.proofs.lemmas.Bool.{true≢false}
use Rattle.sync_engine.proofs.Blanked.{none_any, none_more}
use Rattle.sync_engine.proofs.client.Client.is_any_held.Goals as goal

pub loop-id-preserved : goal.loop-id-preserved
loop-id-preserved c = record { none = none_more c.args.self.now.store.state.rows c.args.ids.now c.loop-id.id-index c.loop-id-test.true c.loop-id.invariant.none (λ held. true≢false (sym (c.is_held.ensures.1 held) ∙ c.if-is_held.false)) }

pub returns : goal.returns
returns c = none_any c.args.self.now.store.state.rows c.args.ids.now c.loop-id.id-index (omega (arith, c.loop-id-test.false, c.loop-id.auto.id-index-end)) c.loop-id.invariant.none
