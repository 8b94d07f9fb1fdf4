use Rattle.std.proofs.Common.{take}
use Rattle.std.specs.List.{All}
use Rattle.document_keys.specs.Paths.{IsFieldName}
use Rattle.value_model.proofs.names.have_field_names.Given as goal

abbrev pub invariant-loop-field : goal.invariant-loop-field
invariant-loop-field l = All (λ field. IsFieldName field.name) (take l.field-index l.fields)
