use Rattle.std.proofs.Common.{take}
use Rattle.mutations.specs.Results.{FitsWrites}
use Rattle.mutations.proofs.results.fit_writes.Given as goal

abbrev pub invariant-loop-place : goal.invariant-loop-place
invariant-loop-place l = FitsWrites (take l.place l.writes) (take l.place l.results)
