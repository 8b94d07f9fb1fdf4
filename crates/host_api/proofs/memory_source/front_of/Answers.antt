use Rattle.std.proofs.Common.{rules}
use Rattle.host_api.proofs.Parts.{front_newline, front_last, front_long}
use Rattle.host_api.proofs.memory_source.front_of.Goals as goal

pub returns-in-Some : goal.returns-in-Some
returns-in-Some c = let e = c.in-Some.ensures in front_newline c.args.rest.now c.min.result c.in-Some.length c.min.ensures record { within = e.0; line = e.1; newline = e.2 }

pub returns-in-None : goal.returns-in-None
returns-in-None c = front_last c.args.rest.now c.min.result c.min.ensures c.in-None.ensures c.if-window-le-LINE_LIMIT.true (search rules)

pub returns-in-None-2 : goal.returns-in-None-2
returns-in-None-2 c = front_long c.args.rest.now c.min.result c.min.ensures c.in-None-2.ensures c.if-window-le-LINE_LIMIT.false
