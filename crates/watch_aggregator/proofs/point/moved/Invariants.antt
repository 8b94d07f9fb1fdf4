use Rattle.std.proofs.Common.{◌≡◌, ◌≤◌, ◌++◌}
use Rattle.std.specs.BTreeMap.{btree_map_len}
use Rattle.std.specs.Vec.{vec_capacity}
use Rattle.watch_aggregator.proofs.point.moved.Given as goal

abbrev pub invariant-loop-entry : goal.invariant-loop-entry
invariant-loop-entry l = record {
  value : l.entries.items ++ l.entry-iterator ≡ l.fn.buffer.entries;
  room : btree_map_len l.fn.buffer ≤ vec_capacity l.entries;
}
