use Rattle.std.proofs.Common.{◌∙◌, ap, sym}
use Rattle.value_model.specs.Arrays.{items_in}
use Rattle.value_model.specs.View.{kind_data}
use Rattle.value_model.proofs.Parts.{list_items}
use Rattle.value_model.proofs.value.Value.items.Goals as goal

pub returns-in-Array : goal.returns-in-Array
returns-in-Array c = c.as_slice.ensures ∙ sym (list_items c.in-Array.values) ∙ ap items_in (sym (ap kind_data c.in-Array.is) ∙ c.self.view_is)
