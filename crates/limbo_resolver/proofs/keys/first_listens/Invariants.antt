use Rattle.std.proofs.Common.{◌≡◌, ◌+◌, ◌*◌, ◌++◌, length, drop}
use Rattle.std.specs.List.{filter}
use Rattle.limbo_resolver.specs.Held.{firsts}
use Rattle.limbo_resolver.specs.Limbo.{has}
use Rattle.limbo_resolver.proofs.keys.first_listens.Given as goal

abbrev pub invariant-loop-key : goal.invariant-loop-key
invariant-loop-key l = record {
  listens : l.listens.items ++ firsts l.places l.next (filter (has l.wanted) (drop l.key-index l.keys)) ≡ firsts l.fn.places l.fn.next (filter (has l.wanted) l.keys);
  next : l.next ≡ l.fn.next + 2 * length l.listens.items;
}
