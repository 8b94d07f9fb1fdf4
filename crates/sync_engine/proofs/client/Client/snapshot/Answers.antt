use Rattle.std.proofs.Common.{ap, sym, subst, ◌∙◌}
use Rattle.std.proofs.lemmas.Bool.{false≢true}
use Rattle.sync_engine.specs.Standing.{Kept, StandsFor}
use Rattle.sync_engine.proofs.Quiet.{standing_over}
use Rattle.sync_engine.proofs.client.Client.snapshot.Goals as goal

pub snapshot-requires-clause-over : goal.snapshot-requires-clause-over
snapshot-requires-clause-over c =
    let it = c.requires (λ spent. false≢true (sym c.if-self.false ∙ ap (λ (k : Kept). k.spent) c.self.view_is ∙ spent)) in
    standing_over c.args.id c.in_ok-view.view.now (subst (λ (k : Kept). StandsFor k it.0 it.1.0) (sym c.self.view_is) it.1.1) c.in_ok-view.ensures
