use Rattle.host_api.proofs.Memories.{cuts, explains}
use Rattle.host_api.proofs.memory_host.MemHostHost.cut.Goals as goal

pub returns-clause-files : goal.returns-clause-files
returns-clause-files c = cuts c.args.file c.args.len c.try_cut-outcome.result c.settle_disk.result c.args.self.now c.try_cut-outcome.new.self c.settle_disk.new.self c.try_cut-outcome.ensures.tried c.settle_disk.ensures.settled

pub returns-clause-explains : goal.returns-clause-explains
returns-clause-explains c = explains _ _ c.try_cut-outcome.result c.settle_disk.result c.args.self.now c.try_cut-outcome.new.self c.settle_disk.new.self c.try_cut-outcome.ensures.tried c.try_cut-outcome.ensures.counted c.settle_disk.ensures.settled
