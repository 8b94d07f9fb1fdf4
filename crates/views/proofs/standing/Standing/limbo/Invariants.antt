use Rattle.std.proofs.Common.{take}
use Rattle.views.specs.Limbo.{IsInLimbo}
use Rattle.views.specs.Picks.{Picks}
use Rattle.views.proofs.standing.Standing.limbo.Given as goal

-- of the keys so far those that are in limbo
abbrev pub invariant-loop-key : goal.invariant-loop-key
invariant-loop-key g l = Picks (IsInLimbo l.self (g.D.Documents.touched_keys l.docs)) (take l.key-index l.shown) l.limbo.items
