use Rattle.std.proofs.Common.{refl, sym, subst}
use Rattle.limbo_resolver.specs.Laws.{IsSound}
use Rattle.limbo_resolver.proofs.Sound.{stay_sound}
use Rattle.limbo_listens.proofs.Settled.{kept_changed}
use Rattle.limbo_listens.proofs.listens.LimboListens.refused.Goals as goal

pub invariant_of-self : goal.invariant_of-self
invariant_of-self c = kept_changed _ _ refl (subst IsSound (sym c.refused.ensures.rest) (stay_sound.refusal _ c.self.inside.resolver c.self.invariant.sound))
