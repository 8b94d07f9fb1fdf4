use Rattle.std.proofs.Common.{rules, [], sym}
use Rattle.host_api.proofs.memory_source.MemSourceSource.line.Goals as goal

pub returns-then-begin-clause-suffix : goal.returns-then-begin-clause-suffix
returns-then-begin-clause-suffix c = ([], sym (search rules))
