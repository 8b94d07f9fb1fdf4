use Rattle.std.proofs.Common.{arith}
use Rattle.disk_journal.proofs.Once.{not_blank}
use Rattle.disk_journal.proofs.reading.blank_in.Goals as goal

pub returns : goal.returns
returns c = not_blank c.args.bytes.now (omega arith) (omega arith)
