use Rattle.std.proofs.Common.{subst, sym}
use Rattle.local_store.specs.State.{Replays}
use Rattle.local_store.proofs.replay.replay.Goals as goal

pub returns : goal.returns
returns c = λ s leads.
    c.in_ok-fit.ensures.unfit c.if-fit.false s (subst (λ u. Replays u c.args.payloads s) (sym c.new-tables.ensures) leads)
