use Rattle.std.proofs.Common.{arith, ap, ◌∙◌}
use Rattle.disk_journal.specs.Frame.{payload_in}
use Rattle.disk_journal.proofs.Lists.{is_frame, payload_in-framed}
use Rattle.disk_journal.proofs.frame.Frame.make.Goals as goal

pub invariant_of-result : goal.invariant_of-result
invariant_of-result c = is_frame _ c.args.payload.now (omega arith) c.in-Ok.ensures

pub returns-in-Ok : goal.returns-in-Ok
returns-in-Ok c = ap payload_in c.in-Ok.ensures ∙ payload_in-framed c.args.payload.now
