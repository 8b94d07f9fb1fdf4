use Rattle.std.proofs.Common.{arith}
use Rattle.line_reader.proofs.Targets.{target_spelled}
use Rattle.line_reader.proofs.raw_event.read_listener.Goals as goal

pub returns-in-Ok-clause-spelled : goal.returns-in-Ok-clause-spelled
returns-in-Ok-clause-spelled c = record { fits = omega (arith, c.ranges.id); target = target_spelled _ _ c.requires c.in-Ok.ensures.query c.show_orders.ensures }
