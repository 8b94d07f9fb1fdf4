use Rattle.sync_engine.proofs.Sent.{sent_more, sent_none}
use Rattle.sync_engine.proofs.client.Client.send.Goals as goal

pub returns-in_default-clause-sends : goal.returns-in_default-clause-sends
returns-in_default-clause-sends c = sent_none c.send_next.ensures.next c.in_default.is c.send_next.ensures.stands c.loop.invariant.sending

pub loop-preserved : goal.loop-preserved
loop-preserved c = record { sending = sent_more c.send_next.ensures.rest c.send_next.ensures.next c.in-Some.is c.send_next.ensures.stands c.in_ok-push.ensures.items c.loop.invariant.sending }
