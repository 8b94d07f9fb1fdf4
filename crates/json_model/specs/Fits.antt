-- Which trees are of the form, by the same tables as their faults, and with none of these.
use Rattle.std.specs.Prelude.{◌≡◌, ◌⊎◌, ℕ, ◌-◌, ◌≤◌, List, [], true, false}
use Rattle.serde_json.specs.Data.{Data as Json, null, boolean, number, string, array, object as an_object, Members, no_members, member, Items, no_items, item}
use Rattle.document_keys.specs.Paths.{IsFieldName}
use Rattle.json_model.specs.declared.side.Side.TheVariants.{Backend}
use Rattle.json_model.specs.declared.place.Place.{Place}
use Rattle.json_model.specs.declared.place.Place.TheVariants as place
use Rattle.json_model.specs.declared.place.Object.{Object}
use Rattle.json_model.specs.declared.place.Object.TheVariants as object
use Rattle.json_model.specs.declared.place.Series.{Series}
use Rattle.json_model.specs.Faults.{Takes, levels_inside}
use Rattle.json_model.specs.Leaves.{FitsLeaf}
use Rattle.json_model.specs.Members.{is_left_out, missed, later, lacks_choice, is_vector_map, lacks_only, refined}
use Rattle.json_model.specs.Origin.{Origin}
use Rattle.json_model.specs.Places.{member_place, item_place, required}

-- a tree that isn't looked into: only the backend has members that aren't known
abbrev pub FitsFlat : Origin → Place → Json → Type 0
FitsFlat o (place.Leaf kind) d = FitsLeaf o.root kind d
FitsFlat o place.Unknown d = o.side ≡ Backend
FitsFlat o place.Ignored d = Unit {0}
FitsFlat o _ d = ⊥

-- an object: it has its one alternative, is no vector, and its members fit in the levels that are left
pub record FitsObject (kind : Object) (ms : Members) (limit : ℕ) (Inside : ℕ → Type 0) : Type 0 where
  pub chooses : lacks_choice kind ms ≡ false
  pub no_vector : is_vector_map kind ms ≡ false
  pub levels : ℕ
  pub takes : Takes (refined kind ms) ms levels
  pub room : levels ≤ limit
  pub inside : Inside (limit - levels)

abbrev pub FitsInObject : Place → (Object → Type 0) → Type 0 → Type 0
FitsInObject (place.Object kind) Inside Other = Inside kind
FitsInObject _ Inside Other = Other

abbrev pub FitsInSeries : Place → (Series → Type 0) → Type 0 → Type 0
FitsInSeries (place.Series kind) Inside Other = Inside kind
FitsInSeries _ Inside Other = Other

-- fields have the names of fields
abbrev pub FitsName : Object → List ℕ → Type 0
FitsName object.Fields name = IsFieldName name
FitsName _ name = Unit {0}

-- the tree is of the form that is to stand at the place, where so many arrays and maps may nest
unfoldable mutual
  pub Fits : Origin → ℕ → Place → Json → Type 0
  Fits o limit place null = FitsFlat o place null
  Fits o limit place (boolean b) = FitsFlat o place (boolean b)
  Fits o limit place (number n) = FitsFlat o place (number n)
  Fits o limit place (string text) = FitsFlat o place (string text)
  Fits o limit place (array ds) = FitsInSeries place (λ kind. (lacks_only kind ds ≡ false) × ItemsFit o limit kind ds) (FitsFlat o place (array ds))
  Fits o limit place (an_object ms) =
      FitsInObject place (λ kind. FitsObject kind ms limit (λ inner. MembersFit o (levels_inside kind inner) (refined kind ms) (required (refined kind ms)) ms)) (FitsFlat o place (an_object ms))

  -- each item is
  pub ItemsFit : Origin → ℕ → Series → Items → Type 0
  ItemsFit o limit kind no_items = Unit {0}
  ItemsFit o limit kind (item d ds) = Fits o limit (item_place kind) d × ItemsFit o limit kind ds

  -- each member that isn't left out is, and of the required ones none is missing
  pub MembersFit : Origin → ℕ → Object → List (List ℕ) → Members → Type 0
  MembersFit o limit kind names no_members = names ≡ []
  MembersFit o limit kind names (member name d ms) =
      (missed name d names ≡ []) × ((is_left_out (member_place kind name) d ≡ true) ⊎ ((is_left_out (member_place kind name) d ≡ false) × (FitsName kind name × Fits o limit (member_place kind name) d))) × MembersFit o limit kind (later name names) ms
