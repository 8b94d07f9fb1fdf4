use Rattle.std.proofs.Common.{◌<◌, length, take}
use Rattle.std.specs.List.{All}
use Rattle.durable_state.proofs.fitting.have_tokens.Given as goal

abbrev pub invariant-loop-row : goal.invariant-loop-row
invariant-loop-row l = All (λ row. 0 < length row.token) (take l.row-index l.rows)
