use Rattle.std.proofs.Common.{take}
use Rattle.std.specs.List.{All}
use Rattle.durable_state.specs.Rows.{HasRow}
use Rattle.durable_state.proofs.fitting.are_known.Given as goal

abbrev pub invariant-loop-row : goal.invariant-loop-row
invariant-loop-row l = All (λ row. HasRow l.targets.rows row.id) (take l.row-index l.rows)
