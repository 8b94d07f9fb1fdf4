-- The items of a value.
use Rattle.std.specs.Prelude.{List, []}
use Rattle.value_model.specs.Data.{Data, array, list_of}

-- the items of an array; another value has none
abbrev pub items_in : Data → List Data
items_in (array ds) = list_of ds
items_in _ = []
