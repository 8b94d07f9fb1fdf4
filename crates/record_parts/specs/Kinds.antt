-- What reading one kind of value, or one field, answers.
use Rattle.std.specs.Prelude.{ℕ, List, ◌∷◌, Result}
use Rattle.value_model.specs.Data.{Data}
use Rattle.value_model.specs.declared.fields.Field.{Field}
use Rattle.value_model.specs.Named.{field_data}
use Rattle.record_parts.specs.declared.fault.ReadError.{ReadError}
use Rattle.record_parts.specs.Spelling.{value, entry, IsNameText, IsSpelledValue}
use Rattle.record_parts.specs.Reading.{Reads}

-- what follows the byte of a kind is read as a value of that kind, however deep values may be nested
abbrev pub ReadsKind : {Y : Type 0} → ℕ → List ℕ → (Y → Data × List ℕ) → Result Y ReadError → Type 0
ReadsKind tag bytes view result = (limit : ℕ) → Reads value (IsSpelledValue limit) (tag ∷ bytes) view result

-- a field, as its name and its value
abbrev pub field : Field → List ℕ
field f = entry (field_data f)

-- a field that has a spelling, whose value is nested at most so deep
pub record IsSpelledField (limit : ℕ) (f : Field) : Type 0 where
  pub name : IsNameText f.name
  pub value : IsSpelledValue limit f.value
