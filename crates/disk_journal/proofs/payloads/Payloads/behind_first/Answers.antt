use Rattle.std.proofs.Common.{◌≡◌, ◌+◌, ◌∙◌, IfOk, ap, drop, min, subst}
use Rattle.disk_journal.proofs.Lent.{behind_lent_first}
use Rattle.disk_journal.proofs.payloads.Payloads.behind_first.Goals as goal

pub returns : goal.returns
returns c =
    let next = c.min.ensures ∙ ap (min (c.rest.inside.behind + 1)) (c.len.ensures ∙ c.rest.inside.spans.ok.0) in
    subst (λ seen. IfOk c.cut.result (λ rest. rest ≡ seen))
    (behind_lent_first c.rest.inside.file.items c.rest.inside.behind c.rest.inside.spans.items c.min.result next ∙ ap (drop 1) c.rest.view_is)
    c.cut.ensures
