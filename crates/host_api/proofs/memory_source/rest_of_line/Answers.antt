use Rattle.host_api.proofs.Parts.{skip_newline, skip_last, skip_whole}
use Rattle.host_api.proofs.memory_source.rest_of_line.Goals as goal

pub returns-in-Some : goal.returns-in-Some
returns-in-Some c = let e = c.in-Some.ensures in skip_newline c.args.rest.now c.min.result c.in-Some.index c.min.ensures record { within = e.0; line = e.1; newline = e.2 }

pub returns-in-None : goal.returns-in-None
returns-in-None c = skip_last c.args.rest.now c.min.result c.min.ensures c.in-None.ensures c.if-window-lt-SKIP_LIMIT.true

pub returns-in-None-2 : goal.returns-in-None-2
returns-in-None-2 c = skip_whole c.args.rest.now c.min.result c.min.ensures c.in-None-2.ensures c.if-window-lt-SKIP_LIMIT.false
