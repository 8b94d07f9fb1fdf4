use Rattle.std.proofs.Common.{arith}
use Rattle.disk_journal.specs.Lent.{Follow}
use Rattle.disk_journal.proofs.payloads.Payloads.new.Goals as goal

pub invariant_of-result : goal.invariant_of-result
unfolding Follow
invariant_of-result c = rw c.new-2.ensures.items ((λ k d lt. omega (arith, lt)), tt, omega arith)
