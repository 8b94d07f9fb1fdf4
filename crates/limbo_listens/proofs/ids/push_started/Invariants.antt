use Rattle.std.proofs.Common.{◌≡◌, ◌+◌, ◌++◌, take, vec_len}
use Rattle.std.specs.Vec.{vec_capacity}
use Rattle.limbo_resolver.specs.Limbo.{ids_of}
use Rattle.limbo_listens.proofs.ids.push_started.Given as goal

abbrev pub invariant-loop-id : goal.invariant-loop-id
invariant-loop-id l = record {
  items : l.ids.items ≡ l.fn.ids.items ++ ids_of (take l.id-index l.started);
  len : vec_len l.ids ≡ vec_len l.fn.ids + l.id-index;
  capacity : vec_capacity l.ids ≡ vec_capacity l.fn.ids;
}
