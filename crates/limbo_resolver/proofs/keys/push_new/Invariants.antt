use Rattle.std.proofs.Common.{◌≡◌, take}
use Rattle.limbo_resolver.specs.Held.{joined}
use Rattle.limbo_resolver.proofs.keys.push_new.Given as goal

abbrev pub invariant-loop-key : goal.invariant-loop-key
invariant-loop-key l = l.keys.keys ≡ joined l.fn.keys.keys (take l.key-index l.wanted)
