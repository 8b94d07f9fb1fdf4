use Rattle.agreement.specs.Client.{run}
use Rattle.agreement.proofs.Agreement.{agreement}
use Rattle.agreement.proofs.Runs.{run_kept}
use Rattle.agreement.proofs.laws.synced_snapshots_agree.Goals as goal

pub returns : goal.returns
returns c = λ s version first turns honest pending local id shown are_local synced.
    let both = run_kept s honest.stand version first turns honest.allowed honest.follows honest.unique (record { sound = honest.sound; live = honest.live }) in
    agreement s version pending (run s turns first) local id shown honest.stand both.sound both.live are_local synced
