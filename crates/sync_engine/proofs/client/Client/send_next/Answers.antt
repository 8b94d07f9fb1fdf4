use Rattle.sync_engine.proofs.Sent.{may_send_by}
use Rattle.sync_engine.proofs.client.Client.send_next.Goals as goal

pub sent-requires : goal.sent-requires
sent-requires c = may_send_by c.len-pending.result c.in_ok-place.place c.next_to_send.ensures c.in_ok-place.was
