use Rattle.std.proofs.Common.{◌≡◌}
use Rattle.host_api.proofs.stream_source.StdSource.skip.Given as goal

abbrev pub invariant-loop : goal.invariant-loop
invariant-loop g l = l.self.faults ≡ l.fn.self.faults
