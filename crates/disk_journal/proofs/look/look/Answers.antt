use Rattle.disk_journal.proofs.Settling.{settled_first, settles}
use Rattle.disk_journal.proofs.look.look.Goals as goal

pub returns-clause-settled : goal.returns-clause-settled
returns-clause-settled g c told = settles g.H.Host.view _ (settled_first g.H.Host.view c.settle.new.host c.settle.ensures.out.out (c.settle.ensures.files told).stays (c.in_ok-settle.ensures.files told).done (c.look_at_each.ensures.files told))
