use Rattle.std.proofs.Common.{take}
use Rattle.std.specs.List.{All}
use Rattle.durable_state.specs.Rows.{HasRow}
use Rattle.durable_state.proofs.fitting.have_rows.Given as goal

abbrev pub invariant-loop-id : goal.invariant-loop-id
invariant-loop-id l = All (HasRow l.targets.rows) (take l.id-index l.ids)
