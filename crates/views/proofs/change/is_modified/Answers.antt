use Rattle.views.specs.Row.{row}
use Rattle.views.proofs.Telling.{modified_by}
use Rattle.views.proofs.change.is_modified.Goals as goal

pub returns-in-Some : goal.returns-in-Some
returns-in-Some c =
    let told = rw (c.deref.ensures, c.deref-in-Some.ensures) at c.is_same.ensures in
    rw (← c.row.view_is) (modified_by c.args.old.now (row c.row.inside.key c.row.inside.document.value) c.in-Some.last.now.value c.is_same.result c.in-Some.ensures told)

pub returns-in-None : goal.returns-in-None
returns-in-None c = rw (← c.row.view_is) (λ no. cc, λ m. absurd (c.in-None.ensures m.document m.there))
