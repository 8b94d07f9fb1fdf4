-- Trees without faults.
use Rattle.std.specs.Prelude.{ℕ, ◌≤◌, List, []}
use Rattle.serde_json.specs.Data.{Data as Json, object as an_object, Members, Items}
use Rattle.json_model.specs.declared.place.Place.{Place}
use Rattle.json_model.specs.declared.place.Place.TheVariants as place
use Rattle.json_model.specs.declared.place.Object.{Object}
use Rattle.json_model.specs.declared.place.Series.{Series}
use Rattle.json_model.specs.Faults.{FaultsAt, ItemsFaults, max_nesting}
use Rattle.json_model.specs.Origin.{Origin}

-- the tree has no fault at the place, in some number of levels, no more than a field's value has
abbrev pub IsClean : Origin → Place → Json → Type 0
IsClean o place d = (limit : ℕ) × (name : List ℕ) × (limit ≤ max_nesting) × FaultsAt o limit place name d []

-- nor has the object of these members
abbrev pub AreClean : Origin → Object → Members → Type 0
AreClean o kind ms = IsClean o (place.Object kind) (an_object ms)

-- nor have these items of a list
abbrev pub ItemsAreClean : Origin → Series → Items → Type 0
ItemsAreClean o kind ds = (limit : ℕ) × (name : List ℕ) × (limit ≤ max_nesting) × ItemsFaults o limit kind name ds []
