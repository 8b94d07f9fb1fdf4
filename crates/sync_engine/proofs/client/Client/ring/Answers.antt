use Rattle.std.proofs.Common.{sym, ap, subst, ◌∙◌}
use Rattle.sync_engine.specs.Standing.{Kept, StandsFor}
use Rattle.sync_engine.proofs.Streamed.{hands_rung}
use Rattle.sync_engine.proofs.client.Client.ring.Goals as goal

pub returns-clause-turn : goal.returns-clause-turn
returns-clause-turn c = λ s past stands.
    let as_kept = subst (λ (k : Kept). StandsFor k s past) (sym c.self.view_is) stands in
    hands_rung c.rung.new.self c.new-outs.result.items c.new-outs.ensures.items as_kept c.rung.ensures (ap (λ (k : Kept). k.watch.due) c.self.view_is ∙ c.requires.idle) c.settle_offline.ensures.rest c.in_ok-settle_offline.ensures.raises
