use Rattle.sync_engine.proofs.Outgoing.{settled_limbo}
use Rattle.sync_engine.proofs.client.Client.settle_limbo.Goals as goal

pub returns-clause-settles : goal.returns-clause-settles
returns-clause-settles c =
    settled_limbo c.settle.new.self c.in_ok-changed.changed.items c.as_slice.result.now c.self.view_is c.in_ok-changed.ensures.done c.as_slice.ensures.value c.ask.ensures.rest c.in_ok-ask.ensures.idle c.in_ok-ask.ensures.closed c.in_ok-ask.ensures.asks
