use Rattle.line_reader.proofs.OnePass.{batch_stands}
use Rattle.line_reader.proofs.batch.plain_batch.Goals as goal

pub returns-clause-is : goal.returns-clause-is
returns-clause-is c =
    rw c.from_vec.ensures (batch_stands _ _ _ _ _ c.in-Some-plain_time.at _ c.in-Some.ensures.is c.in-Some-both_under.ensures c.in-Some-plain_time.ensures.is (rw c.in-Some-2.is at c.in_ok-writes.ensures))
