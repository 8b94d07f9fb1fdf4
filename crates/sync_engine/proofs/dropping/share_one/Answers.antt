use Rattle.std.proofs.Common.{sym, ◌∙◌}
use Rattle.std.proofs.lemmas.Bool.{true≢false}
use Rattle.sync_engine.proofs.Holding.{share_more}
use Rattle.sync_engine.proofs.dropping.share_one.Goals as goal

pub loop-key-preserved : goal.loop-key-preserved
loop-key-preserved c = record { none = share_more c.as_slice-key-items.result.now c.args.others.now c.loop-key.key-index c.key-item.result c.loop-key-test.true c.key-item.is c.loop-key.invariant.none (λ there. true≢false (sym (c.has.ensures.1 there) ∙ c.if-has.false)) }
