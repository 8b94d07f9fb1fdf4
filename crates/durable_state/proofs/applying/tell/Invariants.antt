use Rattle.std.proofs.Common.{◌≡◌, ◌++◌, ℕ}
use Rattle.std.specs.Vec.Iter.{into_iter_items}
use Rattle.durable_state.specs.Rows.{HasRow, told}
use Rattle.durable_state.proofs.applying.tell.Given as goal

abbrev pub invariant-loop-row : goal.invariant-loop-row
invariant-loop-row l = record {
  rows : (id : ℕ) → HasRow l.initial.targets.rows id → HasRow l.targets.rows id;
  split : l.fn.rows.items ≡ l.yielded ++ into_iter_items l.row-iterator;
  told : l.targets.rows ≡ told l.at l.yielded l.initial.targets.rows;
}
