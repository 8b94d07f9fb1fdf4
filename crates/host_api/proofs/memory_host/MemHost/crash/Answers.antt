use Rattle.std.proofs.Common.{rules, arith}
use Rattle.host_api.specs.Crash.{taken_calls}
use Rattle.host_api.proofs.Memories.{crashes}
use Rattle.host_api.proofs.memory_host.MemHost.crash.Goals as goal

pub returns-clause-left : goal.returns-clause-left
returns-clause-left c =
    crashes c.args.self.now (taken_calls c.args.pick.now c.args.self.now) c.args.pick.now.len0 c.args.pick.now.len1 c.args.pick.now.fill c.new-2.result (omega arith) (search rules) (search rules)
