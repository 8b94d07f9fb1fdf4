use Rattle.std.proofs.Common.{◌≡◌, ◌+◌, ◌++◌, take, vec_len}
use Rattle.std.specs.Vec.{vec_capacity}
use Rattle.limbo_listens.proofs.ids.push_ended.Given as goal

abbrev pub invariant-loop-id : goal.invariant-loop-id
invariant-loop-id l = record {
  items : l.ids.items ≡ l.fn.ids.items ++ take l.id-index l.ended;
  len : vec_len l.ids ≡ vec_len l.fn.ids + l.id-index;
  capacity : vec_capacity l.ids ≡ vec_capacity l.fn.ids;
}
