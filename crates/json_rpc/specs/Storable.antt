-- Writes that the journal can hold.
use Rattle.std.specs.Prelude.{ℕ, ◌≤◌, ◌-◌, List, length, Option, IfSome, FitsSigned}
use Rattle.std.specs.Int.{w64}
use Rattle.std.specs.List.{All}
use Rattle.value_model.specs.Data.{Data, Entries, items_of, depth, entries_depth}
use Rattle.value_model.specs.Storable.{IsCountable, IsStorable, AreStorable, AreStorableItems, IsStorableKey}
use Rattle.value_model.specs.Time.{IsMoment}
use Rattle.json_model.specs.Faults.{max_nesting}
use Rattle.json_model.specs.Storable.{IsStorablePath}
use Rattle.mutations.specs.Effect.{IsOfFieldsOnly}
use Rattle.mutations.specs.declared.transform.Change.{Change}
use Rattle.mutations.specs.declared.transform.Change.TheVariants.{ServerTime, Increment, Maximum, Minimum, Append, RemoveAll}
use Rattle.mutations.specs.declared.transform.Transform.{Transform}
use Rattle.mutations.specs.declared.write.Precondition.{Precondition}
use Rattle.mutations.specs.declared.write.Precondition.TheVariants.{Free, Exists, UpdateTime}
use Rattle.mutations.specs.declared.write.Write.{Write}
use Rattle.mutations.specs.declared.write.Write.TheVariants.{Update, Delete}

-- a list that can be counted, of items that can be stored
pub record AreAllStorable {X : Type 0} (Fits : X → Type 0) (items : List X) : Type 0 where
  pub count : IsCountable items
  pub each : All Fits items

-- a precondition: its time is one of the years 1 to 9999
abbrev pub IsStorableCondition : Precondition → Type 0
IsStorableCondition Free = Unit {0}
IsStorableCondition (Exists is) = Unit {0}
IsStorableCondition (UpdateTime time) = IsMoment time

-- a value that nests at most so deep
pub record IsStorableWithin (limit : ℕ) (value : Data) : Type 0 where
  pub storable : IsStorable value
  pub deep : depth value ≤ limit

-- the elements of an array below a path of so many names: with the path they nest at most 20 deep
pub record AreStorableElements (names : ℕ) (values : List Data) : Type 0 where
  pub room : names ≤ max_nesting
  pub each : AreAllStorable (IsStorableWithin (max_nesting - names)) values

-- a change of the field at a path of so many names
abbrev pub IsStorableChange : ℕ → Change → Type 0
IsStorableChange names ServerTime = Unit {0}
IsStorableChange names (Increment by) = FitsSigned w64 by
IsStorableChange names (Maximum other) = FitsSigned w64 other
IsStorableChange names (Minimum other) = FitsSigned w64 other
IsStorableChange names (Append values) = AreStorableElements names values
IsStorableChange names (RemoveAll values) = AreStorableElements names values

-- what a change holds, however deep it nests
abbrev pub HoldsStorable : Change → Type 0
HoldsStorable ServerTime = Unit {0}
HoldsStorable (Increment by) = FitsSigned w64 by
HoldsStorable (Maximum other) = FitsSigned w64 other
HoldsStorable (Minimum other) = FitsSigned w64 other
HoldsStorable (Append values) = AreStorableItems (items_of values) × IsCountable values
HoldsStorable (RemoveAll values) = AreStorableItems (items_of values) × IsCountable values

-- a transform, with what it holds at its path
pub record IsStorableTransform (transform : Transform) : Type 0 where
  pub path : IsStorablePath transform.path
  pub change : IsStorableChange (length transform.path) transform.change

-- an update: its values nest at most 20 deep
pub record IsStorableUpdate (key : List (List ℕ)) (fields : Entries) (mask : Option (List (List (List ℕ)))) (transforms : List Transform) (condition : Precondition) : Type 0 where
  pub names : IsStorableKey key
  pub holds : AreStorable fields
  pub deep : entries_depth fields ≤ max_nesting
  pub masks : IfSome mask (AreAllStorable IsStorablePath)
  pub changes : AreAllStorable IsStorableTransform transforms
  pub asks : IsStorableCondition condition

-- a delete
pub record IsStorableDelete (key : List (List ℕ)) (condition : Precondition) : Type 0 where
  pub names : IsStorableKey key
  pub asks : IsStorableCondition condition

-- what a write is made of
abbrev pub HasStorableParts : Write → Type 0
HasStorableParts (Update key fields mask transforms condition) = IsStorableUpdate key fields mask transforms condition
HasStorableParts (Delete key condition) = IsStorableDelete key condition

-- a write that can be stored: it names no `__name__`, and each of its parts can be
pub record IsStorableWrite (write : Write) : Type 0 where
  pub of_fields : IsOfFieldsOnly write
  pub parts : HasStorableParts write
