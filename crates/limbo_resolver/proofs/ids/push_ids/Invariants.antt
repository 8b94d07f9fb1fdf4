use Rattle.std.proofs.Common.{◌≡◌, ◌++◌, take}
use Rattle.limbo_resolver.specs.Limbo.{ids_of}
use Rattle.limbo_resolver.proofs.ids.push_ids.Given as goal

abbrev pub invariant-loop-id : goal.invariant-loop-id
invariant-loop-id l = l.ids.items ≡ l.fn.ids.items ++ ids_of (take l.id-index l.listens)
