-- The members of JSON objects. A member whose value is null counts as left out.
use Rattle.std.specs.Prelude.{◌≡◌, ℕ, List, [], ◌∷◌, Bool, true, false, not, ◌&&◌, ◌||◌, Option, Some, None, cond, is_some, codes, option_and_then, if◌then◌else◌}
use Rattle.std.specs.Ordering.{nat_cmp, match_ordering}
use Rattle.std.specs.Cmp.Lexicographic.{slice_cmp}
use Rattle.std.specs.Str.{bytes_eq}
use Rattle.serde_json.specs.Data.{Data as Json, null, Members, no_members, member, Items, no_items, item}
use Rattle.serde_json.specs.Find.{as_object, as_str, get_member}
use Rattle.json_model.specs.declared.place.Place.{Place}
use Rattle.json_model.specs.declared.place.Place.TheVariants as place
use Rattle.json_model.specs.declared.place.Object.{Object}
use Rattle.json_model.specs.declared.place.Object.TheVariants as object
use Rattle.json_model.specs.declared.place.Series.{Series}
use Rattle.json_model.specs.declared.place.Series.TheVariants as series
use Rattle.json_model.specs.declared.place.Leaf.{Leaf}
use Rattle.json_model.specs.declared.place.Leaf.TheVariants as leaf
use Rattle.json_model.specs.Constants.{is_list_operator}
use Rattle.json_model.specs.Places.{member_place, is_unknown, chooses, is_choice}

abbrev pub is_null : Json → Bool
is_null null = true
is_null _ = false

abbrev pub unless_null : Json → Option Json
unless_null d = cond (is_null d) None (Some d)

-- the value of the member of that name, where it is there and isn't null
abbrev pub given : List ℕ → Members → Option Json
given name ms = option_and_then unless_null (get_member name ms)

-- ---- members that are left out

abbrev pub is_null_leaf : Leaf → Bool
is_null_leaf leaf.Null = true
is_null_leaf _ = false

-- null may stand there
abbrev pub takes_null : Place → Bool
takes_null (place.Leaf kind) = is_null_leaf kind
takes_null _ = false

-- the member is left out: its value is null, and null isn't what is to stand there
abbrev pub is_left_out : Place → Json → Bool
is_left_out p d = not (takes_null p) && is_null d

-- Of required names those that this member shows to be missing: they come before it, or it is theirs and is null.
abbrev pub missed : List ℕ → Json → List (List ℕ) → List (List ℕ)
missed name d [] = []
missed name d (one ∷ others) = match_ordering (slice_cmp nat_cmp one name) (one ∷ missed name d others) (if is_null d then one ∷ [] else []) []

-- those that are still to come behind it
abbrev pub later : List ℕ → List (List ℕ) → List (List ℕ)
later name [] = []
later name (one ∷ others) = match_ordering (slice_cmp nat_cmp one name) (later name others) others (one ∷ others)

-- ---- alternatives

-- the member is one of the object's alternatives, and isn't left out
abbrev pub is_chosen : Object → List ℕ → Json → Bool
is_chosen o name d = is_choice o name && not (is_left_out (member_place o name) d)

-- the alternatives that are given
abbrev pub chosen : Object → Members → List (List ℕ × Json)
chosen o no_members = []
chosen o (member name d ms) = cond (is_chosen o name d) ((name, d) ∷ chosen o ms) (chosen o ms)

-- the name of the one that is given; none, where there isn't just one
abbrev pub only_name : List (List ℕ × Json) → List ℕ
only_name (only ∷ []) = only.0
only_name _ = []

-- they are one, whose name is known
abbrev pub is_one_known : Object → List (List ℕ × Json) → Bool
is_one_known o [] = false
is_one_known o (only ∷ []) = not (is_unknown (member_place o only.0))
is_one_known o (first ∷ second ∷ others) = false

-- a list of operands must be an array, and isn't one
abbrev pub lacks_array : Object → Members → Bool
lacks_array object.ListOperand ms = not (bytes_eq (only_name (chosen object.Value ms)) (codes "arrayValue"))
lacks_array _ ms = false

-- the object must have exactly one of several members, or just an array, and hasn't
abbrev pub lacks_choice : Object → Members → Bool
lacks_choice o ms = lacks_array o ms || (chooses o && not (is_one_known o (chosen o ms)))

-- a value with one member: that of a scalar kind, which isn't left out
pub record IsLone (kind : Object) (ms : Members) (scalar : Leaf) (name : List ℕ) (inner : Json) : Type 0 where
  pub value : kind ≡ object.Value
  pub alone : ms ≡ member name inner no_members
  pub stands : place.Leaf scalar ≡ member_place object.Value name
  pub there : is_left_out (place.Leaf scalar) inner ≡ false

-- ---- what the members make of an object

abbrev pub has_type : Option Members → Bool
has_type None = false
has_type (Some fields) = is_some (given (codes "__type__") fields)

-- a map is a vector where one of its fields has the name `__type__`
abbrev pub is_vector : Members → Bool
is_vector ms = has_type (option_and_then as_object (given (codes "fields") ms))

abbrev pub is_vector_map : Object → Members → Bool
is_vector_map object.Map ms = is_vector ms
is_vector_map _ ms = false

-- a transform whose alternative has this name is one of an array
abbrev pub is_of_array : List ℕ → Bool
is_of_array name = bytes_eq name (codes "appendMissingElements") || bytes_eq name (codes "removeAllFromArray")

-- the text under `op` asks for a list of operands
abbrev pub asks_list : Option (List ℕ) → Bool
asks_list None = false
asks_list (Some text) = is_list_operator text

abbrev pub takes_list : Members → Bool
takes_list ms = asks_list (option_and_then as_str (given (codes "op") ms))

-- what object it is by its alternative, or by its operator
abbrev pub refined : Object → Members → Object
refined object.Write ms = if bytes_eq (only_name (chosen object.Write ms)) (codes "delete") then object.DeleteWrite else object.Write
refined object.Transform ms = if is_of_array (only_name (chosen object.Transform ms)) then object.ArrayTransform else object.Transform
refined object.FieldFilter ms = if takes_list ms then object.ListFilter else object.FieldFilter
refined object.ListOperand ms = object.Value
refined o ms = o

-- ---- lists

-- the list must have exactly one item, and hasn't
abbrev pub lacks_only : Series → Items → Bool
lacks_only series.Names (item d no_items) = false
lacks_only series.Names _ = true
lacks_only _ ds = false
