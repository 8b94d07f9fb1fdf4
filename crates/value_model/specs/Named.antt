-- Fields of the code as contracts see them: each as a pair of its name and its value.
use Rattle.std.specs.Prelude.{◌≡◌, ℕ, List, map, slice_index_or, slice_set}
use Rattle.value_model.specs.declared.fields.Field.{Field}
use Rattle.value_model.specs.Data.{Data, Entries}

abbrev pub field_data : Field → List ℕ × Data
field_data field = (field.name, field.value)

abbrev pub fields_data : List Field → Entries
fields_data fields = map field_data fields

-- the field at the place has this value, and nothing else is changed
abbrev pub HasValueAt : ℕ → Data → List Field → List Field → Type 0
HasValueAt at value old new = (d : Field)
    → new ≡ slice_set old at (record { name = (slice_index_or old at d).name; value = value })
