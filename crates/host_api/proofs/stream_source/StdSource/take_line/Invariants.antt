use Rattle.std.proofs.Common.{◌≡◌, ◌≤◌, length}
use Rattle.host_api.proofs.stream_source.StdSource.take_line.Given as goal

abbrev pub invariant-loop : goal.invariant-loop
invariant-loop g l = (l.self.faults ≡ l.fn.self.faults) × (length l.out.items ≤ 4194304)
