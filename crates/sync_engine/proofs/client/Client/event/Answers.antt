use Rattle.std.proofs.Common.{true, false, ap, sym, subst, ◌∙◌}
use Rattle.std.proofs.lemmas.Bool.{false≢true}
use Rattle.local_store.specs.Store.{IsStored}
use Rattle.sync_engine.specs.Standing.{Kept, StandsFor}
use Rattle.sync_engine.specs.Telling.{HandsOut}
use Rattle.sync_engine.proofs.Handing.{hands_still, stands_still}
use Rattle.sync_engine.proofs.client.Client.event.Goals as goal

pub turn-requires-clause-stored : goal.turn-requires-clause-stored
turn-requires-clause-stored g c = λ told. subst (λ (k : Kept). IsStored k.store (g.H.Host.view c.args.host.now)) (sym c.self.view_is) (c.requires.stored told (λ spent. false≢true (sym c.if-self.false ∙ ap (λ (k : Kept). k.spent) c.self.view_is ∙ spent)))

pub returns-clause-turn : goal.returns-clause-turn
returns-clause-turn g c = λ s past stands.
    hands_still false (subst (λ (k : Kept). HandsOut s past c.args.event c.in_ok-outcome.outcome k) (sym c.self-2.view_is)
    (c.in_ok-outcome.ensures.turn s past (stands_still true (subst (λ (k : Kept). StandsFor k s past) (sym c.self.view_is) stands))))

pub turn-requires-clause-standing : goal.turn-requires-clause-standing
turn-requires-clause-standing g c =
    let it = c.requires.stands (λ spent. false≢true (sym c.if-self.false ∙ ap (λ (k : Kept). k.spent) c.self.view_is ∙ spent)) in
    (it.0, (it.1.0, stands_still true (subst (λ (k : Kept). StandsFor k it.0 it.1.0) (sym c.self.view_is) it.1.1)))
