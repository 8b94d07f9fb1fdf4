use Rattle.host_api.proofs.Memories.{writes, explains}
use Rattle.host_api.proofs.memory_host.MemHostHost.write.Goals as goal

pub returns-clause-files : goal.returns-clause-files
returns-clause-files c = writes c.args.file c.args.at c.args.piece.now c.try_write-outcome.result c.settle_disk.result c.args.self.now c.try_write-outcome.new.self c.settle_disk.new.self c.requires c.try_write-outcome.ensures.tried c.settle_disk.ensures.settled

pub returns-clause-explains : goal.returns-clause-explains
returns-clause-explains c = explains _ _ c.try_write-outcome.result c.settle_disk.result c.args.self.now c.try_write-outcome.new.self c.settle_disk.new.self c.try_write-outcome.ensures.tried c.try_write-outcome.ensures.counted c.settle_disk.ensures.settled
