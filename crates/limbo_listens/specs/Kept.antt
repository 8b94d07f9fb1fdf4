-- What the listens keep beside what contracts see of them: whether something changed.
use Rattle.std.specs.Prelude.{◌≡◌, Bool, false, List, []}
use Rattle.limbo_resolver.specs.Laws.{IsSound}
use Rattle.limbo_resolver.specs.Limbo.{Key, ended, started, updated}
use Rattle.limbo_listens.specs.Listens.{AreInLimbo, Listens}

-- just the keys in limbo have or await a listen: an update with them ends none and starts none
pub record IsSettled (listens : Listens) : Type 0 where
  pub wanted : List Key
  pub are : AreInLimbo listens wanted
  pub stays : updated wanted listens.limbo ≡ listens.limbo
  pub none_ended : ended wanted listens.limbo.running ≡ []
  pub none_started : started wanted listens.limbo ≡ []

-- the listens are sound, and settled where nothing has changed
pub record IsKept (listens : Listens) (changed : Bool) : Type 0 where
  pub sound : IsSound listens.limbo
  pub settled : changed ≡ false → IsSettled listens
