-- What a transform makes of the field at its path (DocumentTransform.FieldTransform).
use Rattle.std.specs.Prelude.{◌≡◌, ℤ, ◌+ℤ◌, List, [], ◌∷◌, ◌++◌, Option, Some, None, option_map, unwrap_or}
use Rattle.std.specs.Int.{w64, saturate_signed, int_max, int_min}
use Rattle.std.specs.List.{Contains}
use Rattle.value_model.specs.Arrays.{items_in}
use Rattle.value_model.specs.Changes.{with_value_at}
use Rattle.value_model.specs.Data.{Data, integer, pending, Entries, array_of}
use Rattle.value_model.specs.Paths.{value_at}
use Rattle.value_model.specs.declared.timestamp.Timestamp.{Timestamp}
use Rattle.mutations.specs.declared.transform.Change.{Change}
use Rattle.mutations.specs.declared.transform.Change.TheVariants.{ServerTime, Increment, Maximum, Minimum, Append, RemoveAll}
use Rattle.mutations.specs.declared.transform.Transform.{Transform}

-- the whole number of a field; a missing field and another value have none
abbrev pub number_at : Option Data → Option ℤ
number_at (Some (integer number)) = Some number
number_at _ = None

-- the items of a field that holds an array; a missing field and another value have none
abbrev pub items_at : Option Data → List Data
items_at None = []
items_at (Some value) = items_in value

-- the values added one by one, each unless it is there by then
pub data Appends : List Data → List Data → List Data → Type 0 where
  all_added : (items : List Data) → Appends items [] items
  there : (items others after : List Data) (value : Data) → Contains items value → Appends items others after → Appends items (value ∷ others) after
  added : (items others after : List Data) (value : Data) → ¬ (Contains items value) → Appends (items ++ value ∷ []) others after → Appends items (value ∷ others) after

-- the items that aren't among the values taken out, in their order
pub data Removes : List Data → List Data → List Data → Type 0 where
  none_left : (removed : List Data) → Removes removed [] []
  taken : (removed items after : List Data) (value : Data) → Contains removed value → Removes removed items after → Removes removed (value ∷ items) after
  kept : (removed items after : List Data) (value : Data) → ¬ (Contains removed value) → Removes removed items after → Removes removed (value ∷ items) (value ∷ after)

-- what stands at the path after the change, by what stood there: the pending time of the write; the sum, which stops at
-- the ends of the 64-bit range, the greater or the smaller number, or the operand where no whole number stood; or an array
abbrev pub Changed : Option Data → Change → Timestamp → Data → Type 0
Changed found ServerTime at value = value ≡ pending at
Changed found (Increment by) at value = value ≡ integer (unwrap_or (option_map (λ number. saturate_signed w64 (number +ℤ by)) (number_at found)) by)
Changed found (Maximum other) at value = value ≡ integer (unwrap_or (option_map (λ number. int_max number other) (number_at found)) other)
Changed found (Minimum other) at value = value ≡ integer (unwrap_or (option_map (λ number. int_min number other) (number_at found)) other)
Changed found (Append values) at value = (items : List Data) × (value ≡ array_of items) × Appends (items_at found) values items
Changed found (RemoveAll values) at value = (items : List Data) × (value ≡ array_of items) × Removes values (items_at found) items

-- the fields after the transforms, each made from what the ones before it left
pub data Transformed : Timestamp → Entries → List Transform → Entries → Type 0 where
  all_made : (at : Timestamp) (fields : Entries) → Transformed at fields [] fields
  made : (at : Timestamp) (fields after : Entries) (transform : Transform) (others : List Transform) (value : Data) → Changed (value_at fields transform.path) transform.change at value → Transformed at (with_value_at fields transform.path value) others after → Transformed at fields (transform ∷ others) after
