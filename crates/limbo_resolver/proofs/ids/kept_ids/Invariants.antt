use Rattle.std.proofs.Common.{◌≡◌, take, zip}
use Rattle.limbo_resolver.specs.Limbo.{ids_of, kept}
use Rattle.limbo_resolver.proofs.ids.kept_ids.Given as goal

abbrev pub invariant-loop-i : goal.invariant-loop-i
invariant-loop-i l = l.rest.items ≡ ids_of (kept l.wanted (take l.i (zip l.ids l.keys)))
