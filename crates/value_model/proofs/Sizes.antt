-- an item is smaller than its list, and a field's value than the fields
use Rattle.std.proofs.Common.{ℕ, zero, suc, ◌+◌, ◌<◌, ◌≤◌, List, [], ◌∷◌, length, get_or, arith}
use Rattle.value_model.specs.declared.fields.Field.{Field}
use Rattle.value_model.specs.Data.{Data, Entries, items_of}
use Rattle.value_model.specs.Codes.{data_size, items_size, entries_size}
use Rattle.value_model.specs.Named.{fields_data}

pub item_below : (ds : List Data) (i : ℕ) (d : Data) → i < length ds → data_size (get_or ds i d) + 1 ≤ items_size (items_of ds)
item_below [] i d below = absurd (omega arith)
item_below (x ∷ ds) zero d below = omega arith
item_below (x ∷ ds) (suc i) d below = let rest = item_below ds i d (omega arith) in omega arith

pub field_below : (fields : List Field) (i : ℕ) (d : Field) → i < length fields → data_size (get_or fields i d).value + 1 ≤ entries_size (fields_data fields)
field_below [] i d below = absurd (omega arith)
field_below (x ∷ fields) zero d below = omega arith
field_below (x ∷ fields) (suc i) d below = let rest = field_below fields i d (omega arith) in omega arith

-- the same of fields as contracts see them
pub entry_below : (es : Entries) (i : ℕ) (d : List ℕ × Data) → i < length es → data_size (get_or es i d).1 + 1 ≤ entries_size es
entry_below [] i d below = absurd (omega arith)
entry_below (e ∷ es) zero d below = omega arith
entry_below (e ∷ es) (suc i) d below = let rest = entry_below es i d (omega arith) in omega arith
