use Rattle.std.proofs.Common.{sym, ap, subst, ◌∙◌, true}
use Rattle.sync_engine.specs.Standing.{Kept, StandsFor}
use Rattle.sync_engine.proofs.Streamed.{hands_disallowed, hands_watched, watch_opened_twice}
use Rattle.sync_engine.proofs.client.Client.open_watch.Goals as goal

pub returns-then-self-clause-turn : goal.returns-then-self-clause-turn
returns-then-self-clause-turn c = λ s past stands. hands_disallowed true _ c.refused.ensures c.requires.idle stands (watch_opened_twice stands (ap (λ (k : Kept). k.watch.is_open) (sym c.self.view_is) ∙ c.if-self.true))

pub returns-clause-turn : goal.returns-clause-turn
returns-clause-turn c = λ s past stands.
    let as_kept = subst (λ (k : Kept). StandsFor k s past) (sym c.self.view_is) stands in
    hands_watched c.opened.new.self as_kept c.opened.ensures c.if-self.false c.new.ensures.items
