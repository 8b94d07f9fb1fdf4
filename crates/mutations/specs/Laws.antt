-- Laws of masks and transforms.
use Rattle.std.specs.Prelude.{◌≡◌, ◌↔◌, ◌⊎◌, ◌^◌, ◌-◌, ℕ, ℤ, pos, negsuc, ◌+ℤ◌, ◌≤ℤ◌, FitsSigned, List, ◌++◌, Option, Some}
use Rattle.std.specs.Int.{w64}
use Rattle.std.specs.List.{Contains}
use Rattle.value_model.specs.Data.{Data, integer, map, Members, no_members, member, Entries, entries_of, members_of}
use Rattle.value_model.specs.Fields.{AreFields}
use Rattle.value_model.specs.declared.document.Document.{Document}
use Rattle.value_model.specs.declared.timestamp.Timestamp.{Timestamp}
use Rattle.mutations.specs.declared.transform.Change.{Change}
use Rattle.mutations.specs.declared.transform.Change.TheVariants.{Increment}
use Rattle.mutations.specs.declared.write.Write.{Write}
use Rattle.mutations.specs.Changes.{Appends, Removes, Changed}
use Rattle.mutations.specs.Effect.{HasEffect, fields_of}
use Rattle.mutations.specs.Masks.{Masked}

-- a value whose maps, also those in its maps, have fields in their order
abbrev mutual
  pub IsOrderly : Data → Type 0
  IsOrderly (map ms) = AreFields (entries_of ms) × AreOrderly ms
  IsOrderly _ = Unit {0}

  pub AreOrderly : Members → Type 0
  AreOrderly no_members = Unit {0}
  AreOrderly (member name d ms) = IsOrderly d × AreOrderly ms

-- fields with only such values
abbrev pub HasOrder : Entries → Type 0
HasOrder fields = AreFields fields × AreOrderly (members_of fields)

-- masks with the same paths, in whatever order and however often, leave the same; and what a mask leaves is one
pub record MasksHold : Type 0 where
  pub order : (old input new : Entries) (mask other : List (List (List ℕ))) → ((path : List (List ℕ)) → Contains mask path ↔ Contains other path) → Masked old input mask new → Masked old input other new
  pub one : (old input new other : Entries) (mask : List (List (List ℕ))) → HasOrder new → HasOrder other → Masked old input mask new → Masked old input mask other → new ≡ other

-- what appending leaves: the items, with values behind them, so that all values are there and nothing else came; and it
-- leaves one list
pub record AppendsHold : Type 0 where
  pub front : (items values after : List Data) → Appends items values after → (left : List Data) × (after ≡ items ++ left)
  pub all : (items values after : List Data) → Appends items values after → (value : Data) → Contains after value ↔ (Contains items value ⊎ Contains values value)
  pub once : (items values after : List Data) → ((value : Data) → Contains values value → Contains items value) → Appends items values after → after ≡ items
  pub one : (items values after other : List Data) → Appends items values after → Appends items values other → after ≡ other

-- what removing leaves: just the items that aren't among the values
pub record RemovesHold : Type 0 where
  pub others : (values items after : List Data) → Removes values items after → (value : Data) → Contains after value ↔ (Contains items value × ¬ (Contains values value))
  pub once : (values items after : List Data) → ((value : Data) → Contains items value → ¬ (Contains values value)) → Removes values items after → after ≡ items
  pub one : (values items after other : List Data) → Removes values items after → Removes values items other → after ≡ other

-- the changes whose repetition changes nothing
abbrev pub IsRepeatable : Change → Type 0
IsRepeatable (Increment by) = ⊥
IsRepeatable _ = Unit {0}

-- what a change makes of a field is one value; repeated, it changes nothing, but for an increment; and a sum of whole
-- numbers is exact within the 64-bit range and stops at its ends
pub record ChangesHold : Type 0 where
  pub one : (found : Option Data) (change : Change) (at : Timestamp) (value other : Data) → Changed found change at value → Changed found change at other → value ≡ other
  pub repeated : (found : Option Data) (change : Change) (at : Timestamp) (value again : Data) → IsRepeatable change → Changed found change at value → Changed (Some value) change at again → again ≡ value
  pub within : (number by : ℤ) (at : Timestamp) (value : Data) → FitsSigned w64 (number +ℤ by) → Changed (Some (integer number)) (Increment by) at value → value ≡ integer (number +ℤ by)
  pub above : (number by : ℤ) (at : Timestamp) (value : Data) → pos (2 ^ 63 - 1) ≤ℤ (number +ℤ by) → Changed (Some (integer number)) (Increment by) at value → value ≡ integer (pos (2 ^ 63 - 1))
  pub below : (number by : ℤ) (at : Timestamp) (value : Data) → (number +ℤ by) ≤ℤ negsuc (2 ^ 63 - 1) → Changed (Some (integer number)) (Increment by) at value → value ≡ integer (negsuc (2 ^ 63 - 1))

-- documents that a write makes of one document at one time are the same, where all their maps have fields in their order
abbrev pub EffectsAreOne : Type 0
EffectsAreOne = (old new other : Option Document) (write : Write) (at : Timestamp) → HasOrder (fields_of new) → HasOrder (fields_of other) → HasEffect old write at new → HasEffect old write at other → new ≡ other
