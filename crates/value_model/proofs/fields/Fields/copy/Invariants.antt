use Rattle.std.proofs.Common.{◌≡◌, take}
use Rattle.value_model.specs.Named.{fields_data}
use Rattle.value_model.proofs.fields.Fields.copy.Given as goal

abbrev pub invariant-loop-field : goal.invariant-loop-field
invariant-loop-field l = fields_data l.entries.items ≡ fields_data (take l.field-index l.field-items)
