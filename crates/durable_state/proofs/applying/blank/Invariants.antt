use Rattle.std.proofs.Common.{◌≡◌, ◌++◌, ℕ}
use Rattle.std.specs.Vec.Iter.{into_iter_items}
use Rattle.durable_state.specs.Rows.{HasRow, blanked}
use Rattle.durable_state.proofs.applying.blank.Given as goal

abbrev pub invariant-loop-id : goal.invariant-loop-id
invariant-loop-id l = record {
  rows : (id : ℕ) → HasRow l.initial.targets.rows id → HasRow l.targets.rows id;
  split : l.fn.ids.items ≡ l.yielded ++ into_iter_items l.id-iterator;
  blanked : l.targets.rows ≡ blanked l.yielded l.initial.targets.rows;
}
