-- What follows by the longer words follows.
use Rattle.std.proofs.Common.{[], ◌∷◌}
use Rattle.agreement.specs.Laws.{WordsSuffice}

pub words_follow : WordsSuffice
words_follow s version [] stated = tt
words_follow s version (event ∷ past) stated = (stated.0.0, words_follow s version past stated.1)
