-- Parts of a value are smaller than it: what the recursions over values rest on. No meaning stands here.
use Rattle.std.specs.Prelude.{◌+◌, ◌≤◌, max, List, [], ◌∷◌}
use Rattle.std.proofs.Common.{arith}
use denote.Param.Weighed.{most}
use Rattle.value_model.specs.declared.fields.Field.{Field}
use Rattle.value_model.specs.declared.value.Kind.{Kind}
use Rattle.value_model.specs.declared.value.Kind.TheVariants.{Null, Boolean, Integer, Time, Pending, Text, Bytes, Reference, Array, Map}
use Rattle.value_model.specs.declared.fields.Fields.TheDeep.{deep-Kind, deep-Field}
use Rattle.value_model.specs.Data.{Data, items_of}
use Rattle.value_model.specs.Codes.{data_size, items_size, entries_size}
use Rattle.value_model.specs.View.{kind_data}
use Rattle.value_model.specs.Named.{fields_data}

pub most_le : (ds : List Data) → most (λ d. data_size d + 1) ds ≤ items_size (items_of ds)
most_le [] = omega arith
most_le (d ∷ ds) = omega (arith, most_le ds)

pub kind_falls : (k : Kind) → max (deep-Kind k) 0 ≤ data_size (kind_data k)
kind_falls Null = omega arith
kind_falls (Boolean b) = omega arith
kind_falls (Integer n) = omega arith
kind_falls (Time t) = omega arith
kind_falls (Pending t) = omega arith
kind_falls (Text s) = omega arith
kind_falls (Bytes s) = omega arith
kind_falls (Reference r) = omega arith
kind_falls (Array values) = omega arith
kind_falls (Map fields) = omega arith

pub entries_fall : (fields : List Field) → most deep-Field fields ≤ entries_size (fields_data fields)
entries_fall [] = omega arith
entries_fall (field ∷ fields) = omega (arith, entries_fall fields)
