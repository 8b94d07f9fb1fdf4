use Rattle.std.proofs.Common.{◌≡◌, ◌∙◌, List, Some, ap, sym}
use Rattle.std.specs.List.{slice_get}
use Rattle.std.proofs.lemmas.Option.{slice_get-get_or}
use Rattle.views.specs.Row.{Row, row}
use Rattle.views.proofs.Lending.{lends_at, within_by}
use Rattle.views.proofs.snapshot.Snapshot.document.Goals as goal

pub returns : goal.returns
returns g c =
    let r = row c.row.inside.key c.row.inside.document.value in
    let lent = c.as_slice.result.now in
    let found = c.in_ok-row.ensures.lookup in
    let at : slice_get lent c.args.index ≡ Some c.in_ok-row.row.now = slice_get-get_or lent c.args.index c.in_ok-row.row.now (within_by c.args.index lent found.0) ∙ ap Some (sym found.1) in
    let there : slice_get c.self.inside.raised.now.rows c.args.index ≡ Some r = ap (λ (rs : List Row). slice_get rs c.args.index) (sym c.as_slice.ensures) ∙ at ∙ ap Some (sym c.row.view_is) in
    rw (← c.self.view_is) (lends_at (record { raised = c.self.inside.raised.now; documents = g.D.Documents.documents c.self.inside.docs.now }) c.args.index r c.document.result c.self.invariant there c.document.ensures.document c.document.ensures.key)
