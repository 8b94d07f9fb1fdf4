use Rattle.host_api.proofs.Memories.{syncs, explains}
use Rattle.host_api.proofs.memory_host.MemHostHost.sync.Goals as goal

pub returns-clause-files : goal.returns-clause-files
returns-clause-files c = syncs c.args.file c.try_sync-outcome.result c.settle_disk.result c.args.self.now c.try_sync-outcome.new.self c.settle_disk.new.self c.try_sync-outcome.ensures.tried c.settle_disk.ensures.settled

pub returns-clause-explains : goal.returns-clause-explains
returns-clause-explains c = explains _ _ c.try_sync-outcome.result c.settle_disk.result c.args.self.now c.try_sync-outcome.new.self c.settle_disk.new.self c.try_sync-outcome.ensures.tried c.try_sync-outcome.ensures.counted c.settle_disk.ensures.settled
