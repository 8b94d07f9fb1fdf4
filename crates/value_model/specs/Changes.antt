-- Values with another value at a path, and without one.
use Rattle.std.specs.Prelude.{ℕ, List, [], ◌∷◌, option_map, unwrap_or}
use Rattle.value_model.specs.Data.{Data, null, map, Entries, entries_of, map_of}
use Rattle.value_model.specs.Fields.{field, with_field, without_field}

-- the members of a value, which a map alone has
abbrev pub members_in : Data → Entries
members_in (map ms) = entries_of ms
members_in _ = []

-- a value with another at a path inside it: the maps above are made, in place of what isn't one
abbrev pub with_value : Data → List (List ℕ) → Data → Data
with_value d [] value = value
with_value d (name ∷ path) value = map_of (with_field (members_in d) name (with_value (unwrap_or (field (members_in d) name) null) path value))

-- fields with a value at a path
abbrev pub with_value_at : Entries → List (List ℕ) → Data → Entries
with_value_at fields path value = members_in (with_value (map_of fields) path value)

-- a map with other members; another value as it is
abbrev pub on_members : (Entries → Entries) → Data → Data
on_members change (map ms) = map_of (change (entries_of ms))
on_members change d = d

-- fields without what stands at a path; nothing is made on the way
abbrev pub without_value_at : Entries → List (List ℕ) → Entries
without_value_at fields [] = fields
without_value_at fields (name ∷ []) = without_field fields name
without_value_at fields (name ∷ next ∷ path) = unwrap_or (option_map (λ d. with_field fields name (on_members (λ inner. without_value_at inner (next ∷ path)) d)) (field fields name)) fields
