use Rattle.sync_engine.proofs.client.Client.concerned.Goals as goal

pub returns : goal.returns
returns c = record { ascending = c.in_ok-ids.ensures.ascending; each = λ id one. c.in_ok-ids.ensures.all id (c.in_ok-set.ensures id one) }
