-- Forms that the trees of messages share: how objects and lists spell what they stand for.
use Rattle.std.specs.Prelude.{◌≡◌, ℕ, List, [], ◌∷◌, Option, Some, None}
use Rattle.serde_json.specs.Data.{Data as Json, array, Items, no_items, item, Members, no_members, member}
use Rattle.serde_json.specs.Find.{as_object, as_array}
use Rattle.json_model.specs.declared.place.Object.{Object}
use Rattle.json_model.specs.Members.{chosen}

-- a member that is there, and spells what it is to
pub record IsGiven (found : Option Json) (Spells : Json → Type 0) : Type 0 where
  pub tree : Json
  pub is : found ≡ Some tree
  pub spells : Spells tree

-- an object whose members spell what they are to
pub record InObject (d : Json) (Spells : Members → Type 0) : Type 0 where
  pub members : Members
  pub is : as_object d ≡ Some members
  pub spells : Spells members

-- an object with just one alternative: its members, the name of that one and what stands under it spell what they are to
pub record ByChoice (kind : Object) (d : Json) (Spells : Members → List ℕ → Json → Type 0) : Type 0 where
  pub members : Members
  pub is : as_object d ≡ Some members
  pub name : List ℕ
  pub inner : Json
  pub only : chosen kind members ≡ (name, inner) ∷ []
  pub spells : Spells members name inner

-- the items of a list spell these, one each, in their order
pub data Each {X : Type 0} (Spells : Json → X → Type 0) : Items → List X → Type 0 where
  no_more : Each Spells no_items []
  one_more : {d : Json} {ds : Items} {x : X} {xs : List X} → Spells d x → Each Spells ds xs → Each Spells (item d ds) (x ∷ xs)

-- a list, which may be left out where it is empty
abbrev pub SpellsEach : {X : Type 0} → (Json → X → Type 0) → Option Json → List X → Type 0
SpellsEach Spells None xs = xs ≡ []
SpellsEach Spells (Some d) xs = (ds : Items) × (as_array d ≡ Some ds) × Each Spells ds xs

-- the member before the others, unless it is left out
abbrev pub before : List ℕ → Option Json → Members → Members
before name None ms = ms
before name (Some d) ms = member name d ms

-- the members of these names that aren't left out
abbrev pub present : List (List ℕ × Option Json) → Members
present [] = no_members
present (row ∷ rows) = before row.0 row.1 (present rows)

-- a list, unless it is empty
abbrev pub unless_empty : Items → Option Json
unless_empty no_items = None
unless_empty (item d ds) = Some (array (item d ds))

-- each of a list as a tree
abbrev pub printed_each : {X : Type 0} → (X → Json) → List X → Items
printed_each print [] = no_items
printed_each print (x ∷ xs) = item (print x) (printed_each print xs)
