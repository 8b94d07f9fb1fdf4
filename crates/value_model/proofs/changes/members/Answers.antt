use Rattle.std.proofs.Common.{◌∙◌, sym, ap}
use Rattle.std.proofs.lemmas.Result.{IfOk-weaker}
use Rattle.value_model.specs.Changes.{members_in}
use Rattle.value_model.specs.View.{kind_data}
use Rattle.value_model.proofs.Parts.{entries_members}
use Rattle.value_model.proofs.changes.members.Goals as goal

pub returns-in-Map : goal.returns-in-Map
returns-in-Map c =
    let shown = sym (ap members_in (sym c.value.view_is ∙ ap kind_data c.in-Map.is) ∙ entries_members c.in-Map.fields) in
    IfOk-weaker c.into_fields.result _ _ (λ fields is. is ∙ shown) c.into_fields.ensures
