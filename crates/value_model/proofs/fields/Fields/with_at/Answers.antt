use Rattle.std.proofs.Common.{◌∙◌, sym, ap}
use Rattle.std.proofs.lemmas.Result.{IfOk-weaker}
use Rattle.value_model.specs.Changes.{members_in}
use Rattle.value_model.proofs.Parts.{entries_members}
use Rattle.value_model.proofs.fields.Fields.with_at.Goals as goal

pub returns-clause-done : goal.returns-clause-done
returns-clause-done c = IfOk-weaker c.with_member.result _ _ (λ fields is. sym (entries_members fields) ∙ ap members_in is) c.with_member.ensures.done
