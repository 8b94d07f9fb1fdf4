use Rattle.agreement.proofs.Runs.{run_kept}
use Rattle.agreement.proofs.laws.soundness_is_kept.Goals as goal

pub returns : goal.returns
returns c = λ s version first turns honest.
    let both = run_kept s honest.stand version first turns honest.allowed honest.follows honest.unique (record { sound = honest.sound; live = honest.live }) in
    (both.sound, both.live)
