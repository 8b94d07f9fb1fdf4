use Rattle.std.proofs.Common.{◌∙◌, sym, ap, subst}
use Rattle.durable_state.specs.Lending.{known_by}
use Rattle.durable_state.specs.Tables.{AreLaid, Tables, state_in}
use Rattle.durable_state.proofs.Lent.{bare_lends, laid_lends}
use Rattle.durable_state.proofs.lending.DurableStateDocuments.document.Goals as goal

pub returns-in-Some-clause-document : goal.returns-in-Some-clause-document
returns-in-Some-clause-document c =
    let are_laid = subst (λ (t : Tables). AreLaid (state_in t) c.self.inside.overlays) c.self.view_is c.self.invariant.laid in
    c.laid.ensures.document
    ∙ laid_lends (state_in c.args.self.now) c.self.inside.overlays c.args.key.now c.in-Some.document.now are_laid (sym c.in-Some.ensures)

pub returns-in-None-clause-document : goal.returns-in-None-clause-document
returns-in-None-clause-document c =
    let are_laid = subst (λ (t : Tables). AreLaid (state_in t) c.self.inside.overlays) c.self.view_is c.self.invariant.laid in
    c.plain.ensures.document ∙ ap known_by c.entry.ensures
    ∙ bare_lends (state_in c.args.self.now) c.self.inside.overlays c.args.key.now are_laid (sym c.in-None.ensures)
