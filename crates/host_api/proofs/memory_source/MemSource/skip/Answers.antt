use Rattle.std.proofs.Common.{subst, rules}
use Rattle.host_api.specs.Reading.{IsWholeSkip}
use Rattle.host_api.proofs.Parts.{left_whole}
use Rattle.host_api.proofs.memory_source.MemSource.skip.Goals as goal

pub returns-in_default-clause-left : goal.returns-in_default-clause-left
returns-in_default-clause-left c = left_whole c.args.self.now c.advance.new.self c.advance.ensures (search rules) (subst IsWholeSkip c.rest.ensures c.in_default.ensures)
