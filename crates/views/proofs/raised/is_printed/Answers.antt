use Rattle.views.specs.Printed.{stored_of}
use Rattle.views.specs.Row.{row}
use Rattle.views.proofs.PrintedRows.{printed_none, printed_some}
use Rattle.views.proofs.raised.is_printed.Goals as goal

pub returns-in-Some : goal.returns-in-Some
returns-in-Some g c =
    let told = rw c.deref.ensures at c.is_printed_as.ensures in
    rw (← c.row.view_is) (printed_some (g.D.Documents.documents c.args.docs.now) (row c.row.inside.key c.row.inside.document.value) (stored_of c.in-Some.document) c.is_printed_as.result c.in-Some.ensures.document told)

pub returns-in-None : goal.returns-in-None
returns-in-None g c = rw (← c.row.view_is) (λ no. cc, λ is. absurd (printed_none (g.D.Documents.documents c.args.docs.now) (row c.row.inside.key c.row.inside.document.value) c.in-None.ensures.document is))
