-- The faults of a tree, in the order of the walk: members in byte order of their names, lists in order, a required member that
-- is missing at its own name's place. The wrong shape of an object, and one that must have exactly one of several members and
-- hasn't, come before what is inside, and are then the only fault there.
use Rattle.std.specs.Prelude.{◌≡◌, ◌⊎◌, ℕ, ◌-◌, List, [], ◌∷◌, ◌++◌, map, length, true, false, codes, Option, Some, nat_lt, if◌then◌else◌}
use Rattle.document_keys.specs.Names.{Root}
use Rattle.document_keys.specs.Paths.{SpellsPath}
use Rattle.serde_json.specs.Data.{Data as Json, null, boolean, number, string, array, object as an_object, Members, no_members, member, Items, no_items, item}
use Rattle.json_model.specs.declared.side.Side.{Side}
use Rattle.json_model.specs.declared.side.Side.TheVariants.{Caller, Backend}
use Rattle.json_model.specs.declared.place.Place.{Place}
use Rattle.json_model.specs.declared.place.Place.TheVariants as place
use Rattle.json_model.specs.declared.place.Object.{Object}
use Rattle.json_model.specs.declared.place.Object.TheVariants as object
use Rattle.json_model.specs.declared.place.Series.{Series}
use Rattle.json_model.specs.declared.place.Leaf.TheVariants as leaf
use Rattle.json_model.specs.declared.fault.JsonFault.{JsonFault}
use Rattle.json_model.specs.declared.fault.JsonFault.TheVariants as json_fault
use Rattle.json_model.specs.declared.fault.NamingFault.TheVariants.{BadSegment, BadPath}
use Rattle.json_model.specs.Leaves.{LeafFaults, FieldNameFaults, bad_name}
use Rattle.json_model.specs.Members.{given, is_left_out, missed, later, lacks_choice, is_vector_map, lacks_only, refined}
use Rattle.json_model.specs.Origin.{Origin}
use Rattle.json_model.specs.Places.{member_place, item_place, required}
use Rattle.json_model.specs.Ranks.{first_of_least}

-- a fault is found: the first of the least kind, of faults that there are
pub record FirstOf (Faults : List JsonFault → Type 0) (found : Option JsonFault) : Type 0 where
  pub faults : List JsonFault
  pub are : Faults faults
  pub first : found ≡ first_of_least faults

-- what a reader answers where it can't read: want of memory, or the first of the least kind of the faults
abbrev pub IsFault : (List JsonFault → Type 0) → JsonFault → Type 0
IsFault Faults fault = (fault ≡ json_fault.NoMemory) ⊎ FirstOf Faults (Some fault)

-- a member that isn't known is a fault of the caller's, and ignored in a message of the backend
abbrev pub unknown_faults : Side → List ℕ → List JsonFault
unknown_faults Caller name = json_fault.BadShape name ∷ []
unknown_faults Backend name = []

-- a tree that isn't looked into, or isn't one that is to be
abbrev pub FlatFaults : Origin → Place → List ℕ → Json → List JsonFault → Type 0
FlatFaults o (place.Leaf kind) name d faults = LeafFaults o.root kind name d faults
FlatFaults o place.Unsupported name d faults = faults ≡ json_fault.Unsupported name ∷ []
FlatFaults o place.Unknown name d faults = faults ≡ unknown_faults o.side name
FlatFaults o place.Ignored name d faults = faults ≡ []
FlatFaults o _ name d faults = faults ≡ json_fault.BadShape name ∷ []

-- What an object has in place of what is inside it: the wrong number of alternatives, or that it is a vector.
abbrev pub own_faults : Object → List ℕ → Members → List JsonFault
own_faults kind name ms =
    if lacks_choice kind ms then json_fault.BadShape name ∷ []
    else if is_vector_map kind ms then json_fault.Unsupported (codes "vectorValue") ∷ []
    else []

-- what a list has in place of what is inside it
abbrev pub own_list_faults : Series → List ℕ → Items → List JsonFault
own_list_faults kind name ds = if lacks_only kind ds then json_fault.BadShape name ∷ [] else []

-- the faults of its own, or else those of what is inside
abbrev pub OwnOr : List JsonFault → (List JsonFault → Type 0) → List JsonFault → Type 0
OwnOr [] Inside faults = Inside faults
OwnOr (fault ∷ own) Inside faults = faults ≡ fault ∷ own

-- the path under `fieldPath` has so many names; none where it isn't a path
pub data CountsPath (path : Option Json) : ℕ → Type 0 where
  of_path : (text : List ℕ) (names : List (List ℕ)) → path ≡ Some (string text) → SpellsPath text names → CountsPath path (length names)
  no_path : ((text : List ℕ) (names : List (List ℕ)) → path ≡ Some (string text) → ¬ (SpellsPath text names)) → CountsPath path 0

-- How many levels of nesting an object takes up: an array, a map or a filter one, and a transform of an array as many as its path
-- has names.
abbrev pub Takes : Object → Members → ℕ → Type 0
Takes object.Array ms n = n ≡ 1
Takes object.Map ms n = n ≡ 1
Takes object.Filter ms n = n ≡ 1
Takes object.ArrayTransform ms n = CountsPath (given (codes "fieldPath") ms) n
Takes _ ms n = n ≡ 0

-- how deep a field's value may nest, and how deep filters may
abbrev pub max_nesting : ℕ
max_nesting = 20

-- How many levels there are inside an object where so many are left. The operand of a filter nests as deep as any value may.
abbrev pub levels_inside : Object → ℕ → ℕ
levels_inside object.FieldFilter left = max_nesting
levels_inside _ left = left

-- an object that takes up more levels than there are is too deep
abbrev pub depth_faults : ℕ → ℕ → List JsonFault
depth_faults limit levels = if nat_lt limit levels then json_fault.TooDeep ∷ [] else []

-- what is inside an object, in the levels that are left
pub record InLevels (kind : Object) (ms : Members) (limit : ℕ) (Inside : ℕ → List JsonFault → Type 0) (faults : List JsonFault) : Type 0 where
  pub levels : ℕ
  pub takes : Takes kind ms levels
  pub inside : List JsonFault
  pub are : Inside (limit - levels) inside
  pub is : faults ≡ depth_faults limit levels ++ inside

-- an object or a list where one is to stand, and any tree elsewhere
abbrev pub InObject : Place → (Object → List JsonFault → Type 0) → (List JsonFault → Type 0) → List JsonFault → Type 0
InObject (place.Object kind) Inside Other faults = Inside kind faults
InObject _ Inside Other faults = Other faults

abbrev pub InSeries : Place → (Series → List JsonFault → Type 0) → (List JsonFault → Type 0) → List JsonFault → Type 0
InSeries (place.Series kind) Inside Other faults = Inside kind faults
InSeries _ Inside Other faults = Other faults

-- the faults of a member's name: fields have names that can be wrong
abbrev pub OwnName : Object → List ℕ → List JsonFault → Type 0
OwnName object.Fields name faults = FieldNameFaults name faults
OwnName _ name faults = faults ≡ []

-- a member: it is left out, or has the faults of its name and then those of its value
abbrev pub AtMember : Object → List ℕ → Json → (List JsonFault → Type 0) → List JsonFault → Type 0
AtMember kind name d Inside faults =
    ((is_left_out (member_place kind name) d ≡ true) × (faults ≡ []))
    ⊎ ((is_left_out (member_place kind name) d ≡ false) × ((own : List JsonFault) × (inside : List JsonFault) × OwnName kind name own × Inside inside × (faults ≡ own ++ inside)))

-- A required member that is missing. The path of a field and the id of a collection then count as the empty text.
abbrev pub missing_fault : Object → List ℕ → JsonFault
missing_fault object.Field name = bad_name BadPath []
missing_fault object.Selector name = bad_name BadSegment []
missing_fault _ name = json_fault.BadShape name

-- required members that are missing
abbrev pub missing : Object → List (List ℕ) → List JsonFault
missing kind names = map (missing_fault kind) names

-- the faults of a tree at a place, under that name, where so many arrays and maps may nest
unfoldable mutual
  pub FaultsAt : Origin → ℕ → Place → List ℕ → Json → List JsonFault → Type 0
  FaultsAt o limit place name null faults = FlatFaults o place name null faults
  FaultsAt o limit place name (boolean b) faults = FlatFaults o place name (boolean b) faults
  FaultsAt o limit place name (number n) faults = FlatFaults o place name (number n) faults
  FaultsAt o limit place name (string text) faults = FlatFaults o place name (string text) faults
  FaultsAt o limit place name (array ds) faults =
      InSeries place (λ kind. OwnOr (own_list_faults kind name ds) (ItemsFaults o limit kind name ds)) (FlatFaults o place name (array ds)) faults
  FaultsAt o limit place name (an_object ms) faults =
      InObject place (λ kind. OwnOr (own_faults kind name ms) (InLevels (refined kind ms) ms limit (λ inner. MembersFaults o (levels_inside kind inner) (refined kind ms) (required (refined kind ms)) ms)))
      (FlatFaults o place name (an_object ms)) faults

  -- of the items of a list of that name
  pub ItemsFaults : Origin → ℕ → Series → List ℕ → Items → List JsonFault → Type 0
  ItemsFaults o limit kind name no_items faults = faults ≡ []
  ItemsFaults o limit kind name (item d ds) faults =
      (first : List JsonFault) × (rest : List JsonFault) × FaultsAt o limit (item_place kind) name d first × ItemsFaults o limit kind name ds rest × (faults ≡ first ++ rest)

  -- of the members of an object, of which these are required
  pub MembersFaults : Origin → ℕ → Object → List (List ℕ) → Members → List JsonFault → Type 0
  MembersFaults o limit kind names no_members faults = faults ≡ missing kind names
  MembersFaults o limit kind names (member name d ms) faults =
      (first : List JsonFault) × (rest : List JsonFault) × AtMember kind name d (FaultsAt o limit (member_place kind name) name d) first × MembersFaults o limit kind (later name names) ms rest
      × (faults ≡ missing kind (missed name d names) ++ (first ++ rest))

-- ---- fields, and the name of a document

-- of a tree that is to spell fields
abbrev pub FieldsFaults : Origin → Json → List JsonFault → Type 0
FieldsFaults o d faults = FaultsAt o max_nesting (place.Object object.Fields) (codes "fields") d faults

-- of a tree that is to name a document under the root
abbrev pub NameFaults : Root → Json → List JsonFault → Type 0
NameFaults root d faults = LeafFaults root leaf.Name (codes "name") d faults
