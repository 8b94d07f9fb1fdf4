use Rattle.std.proofs.Common.{◌∙◌, sym, ap}
use Rattle.value_model.specs.Fields.{field}
use Rattle.value_model.specs.View.{kind_data}
use Rattle.value_model.proofs.Inner.{member_of_map}
use Rattle.value_model.proofs.value.Value.member.Goals as goal

pub returns-in-Map : goal.returns-in-Map
returns-in-Map c = c.get.ensures ∙ ap (λ fields. field fields c.args.name.now) c.as_fields.ensures ∙ sym (member_of_map _ _ _ (sym c.self.view_is ∙ ap kind_data c.in-Map.is))
