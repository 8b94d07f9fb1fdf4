-- What a tree over borrowed text holds and stands for.
use Rattle.std.specs.Prelude.{◌≡◌, ◌⊎◌, ℕ, ◌≤◌, List, false, Some}
use Rattle.json.specs.Find.{is_null}
use Rattle.json.specs.Json.{Json, object, member, no_members}
use Rattle.serde_json.specs.Data.{Data, object as an_object, member as one_member, no_members as none}
use Rattle.serde_json.specs.Read.{of_json}
use Rattle.value_model.specs.Data.{Entries, entries_depth}
use Rattle.value_model.specs.Storable.{AreStorable}
use Rattle.json_model.specs.declared.place.Place.{Place}
use Rattle.json_model.specs.Faults.{max_nesting}
use Rattle.json_model.specs.Fits.{Fits}
use Rattle.json_model.specs.Members.{is_null as left_out}
use Rattle.json_model.specs.Origin.{Origin}

-- an object of just this member, which isn't left out
pub record HoldsOnly (tree : Json) (name : List ℕ) (inner : Json) : Type 0 where
  pub is : tree ≡ object (member name inner no_members)
  pub there : is_null inner ≡ false

-- an object of just these two, in whichever order, neither of which is left out
pub record HoldsBoth (tree : Json) (first second : List ℕ) (one other : Json) : Type 0 where
  pub is : (tree ≡ object (member first one (member second other no_members))) ⊎ (tree ≡ object (member second other (member first one no_members)))
  pub one_there : is_null one ≡ false
  pub other_there : is_null other ≡ false

-- the tree that it stands for has just this member, which isn't left out
pub record HasOnly (name : List ℕ) (inner d : Data) : Type 0 where
  pub is : d ≡ an_object (one_member name inner none)
  pub there : left_out inner ≡ false

-- the tree that it stands for has just these two in this order, neither of which is left out
pub record HasBoth (first second : List ℕ) (before behind d : Data) : Type 0 where
  pub is : d ≡ an_object (one_member first before (one_member second behind none))
  pub one : left_out before ≡ false
  pub other : left_out behind ≡ false

-- it stands for a tree of which this holds: numbers have values, and of members with one name the last counts
pub record StandsFor (tree : Json) (Fact : Data → Type 0) : Type 0 where
  pub seen : Data
  pub is : of_json tree ≡ Some seen
  pub holds : Fact seen

-- the tree is of the form that is to stand at the place, and spells this, which the journal can hold
pub record IsBuiltOf {X : Type 0} (o : Origin) (limit : ℕ) (at : Place) (Spells : Data → X → Type 0) (Stored : X → Type 0) (x : X) (d : Data) : Type 0 where
  pub fits : Fits o limit at d
  pub spelled : Spells d x
  pub stored : Stored x

-- the same whatever the root and the side, and with all levels left
abbrev pub IsBuiltAnywhere : {X : Type 0} → Place → (Data → X → Type 0) → (X → Type 0) → X → Data → Type 0
IsBuiltAnywhere at Spells Stored x d = (o : Origin) → IsBuiltOf o max_nesting at Spells Stored x d

-- fields that the journal can hold, in which at most so many arrays and maps nest
pub record AreStoredFields (limit : ℕ) (fields : Entries) : Type 0 where
  pub storable : AreStorable fields
  pub deep : entries_depth fields ≤ limit
