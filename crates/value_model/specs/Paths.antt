-- What stands at a field's path: each name leads one map further in.
use Rattle.std.specs.Prelude.{ℕ, List, [], ◌∷◌, Option, Some, None, option_and_then}
use Rattle.value_model.specs.Data.{Data, map, Entries, entries_of, map_of}
use Rattle.value_model.specs.Fields.{field}

-- the member of a value, which a map alone has
abbrev pub member_at : Data → List ℕ → Option Data
member_at (map ms) name = field (entries_of ms) name
member_at _ name = None

-- what stands at a path inside a value; the value itself at the path without names
abbrev pub value_in : Data → List (List ℕ) → Option Data
value_in d [] = Some d
value_in d (name ∷ path) = option_and_then (λ inner. value_in inner path) (member_at d name)

-- what stands at a path of some fields
abbrev pub value_at : Entries → List (List ℕ) → Option Data
value_at fields path = value_in (map_of fields) path
