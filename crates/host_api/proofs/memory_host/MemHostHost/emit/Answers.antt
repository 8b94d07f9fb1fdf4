use Rattle.host_api.proofs.Memories.{emits, explains}
use Rattle.host_api.proofs.memory_host.MemHostHost.emit.Goals as goal

pub returns-clause-out : goal.returns-clause-out
returns-clause-out c = (emits c.args.piece.now c.try_emit-outcome.result c.settle_sink.result c.args.self.now c.try_emit-outcome.new.self c.settle_sink.new.self c.try_emit-outcome.ensures.tried c.settle_sink.ensures.settled).out

pub returns-clause-files : goal.returns-clause-files
returns-clause-files c = (emits c.args.piece.now c.try_emit-outcome.result c.settle_sink.result c.args.self.now c.try_emit-outcome.new.self c.settle_sink.new.self c.try_emit-outcome.ensures.tried c.settle_sink.ensures.settled).files

pub returns-clause-explains : goal.returns-clause-explains
returns-clause-explains c = explains _ _ c.try_emit-outcome.result c.settle_sink.result c.args.self.now c.try_emit-outcome.new.self c.settle_sink.new.self c.try_emit-outcome.ensures.tried c.try_emit-outcome.ensures.counted c.settle_sink.ensures.settled
