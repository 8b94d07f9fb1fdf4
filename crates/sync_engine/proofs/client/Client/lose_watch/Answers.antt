use Rattle.std.proofs.Common.{subst}
use Rattle.sync_engine.specs.Standing.{Kept}
use Rattle.sync_engine.specs.Telling.{Loses}
use Rattle.sync_engine.proofs.Streamed.{loses_by}
use Rattle.sync_engine.proofs.client.Client.lose_watch.Goals as goal

pub returns-clause-loses : goal.returns-clause-loses
returns-clause-loses c = subst (λ (k : Kept). Loses k c.settle_offline.new.self c.args.outs.now.items c.settle_offline.new.outs.items) c.self.view_is
    (loses_by c.closed.new.self c.is_empty-wanted.result c.is_empty-wanted.ensures c.closed.ensures c.settle_offline.ensures.rest c.in_ok-settle_offline.ensures.raises)
