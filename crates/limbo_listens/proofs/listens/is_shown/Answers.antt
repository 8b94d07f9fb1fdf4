use Rattle.std.proofs.Common.{◌∙◌, [], sym, ap}
use Rattle.std.specs.Option.{unwrap_or}
use Rattle.limbo_listens.proofs.Shown.{same_lists}
use Rattle.limbo_listens.proofs.listens.is_shown.Goals as goal

pub returns-in-Some : goal.returns-in-Some
returns-in-Some c same =
    ap (λ o. unwrap_or o []) (sym c.in-Some.ensures.value) ∙ sym c.as_slice.ensures ∙ same_lists _ _ c.eq.result c.eq.ensures same
