-- The values and fields that trees without faults spell, as google.firestore.v1 writes them in proto3 JSON. The form of these
-- trees is said by their faults, and by `Fits`.
use Rattle.std.specs.Prelude.{◌≡◌, ℕ, ℤ, List, [], ◌∷◌, Bool, true, false, codes, Option, Some, None}
use Rattle.serde_json.specs.Data as json
use Rattle.value_model.specs.declared.reference.RefName.{RefName}
use Rattle.value_model.specs.declared.timestamp.Timestamp.{Timestamp}
use Rattle.value_model.specs.Data.{Data, null, boolean, integer, time, text, bytes, reference, array_of, map_of, Entries}
use Rattle.value_model.specs.Fields.{with_field}
use Rattle.value_model.specs.Time.{time_of}
use Rattle.document_keys.specs.Names.{Root, IsKey, IsSegment, documents_text, name_text}
use Rattle.json_model.specs.declared.place.Place.{Place}
use Rattle.json_model.specs.declared.place.Place.TheVariants as place
use Rattle.json_model.specs.declared.place.Object.TheVariants as object
use Rattle.json_model.specs.declared.place.Leaf.{Leaf}
use Rattle.json_model.specs.declared.place.Leaf.TheVariants as leaf
use Rattle.json_model.specs.Bytes.{SpellsBytes}
use Rattle.json_model.specs.Leaves.{IsNullTree, SpellsFieldPath, SpellsQueryPath}
use Rattle.json_model.specs.Members.{is_null, given, chosen}
use Rattle.json_model.specs.Numbers.{SpellsWhole}
use Rattle.json_model.specs.Places.{value_member}
use Rattle.json_model.specs.References.{SpellsReference}

-- the tree is the text of a time
abbrev pub SpellsTime : json.Data → Timestamp → Type 0
SpellsTime d at = (content : List ℕ) × ((d ≡ json.string content) × (time_of content ≡ Some at))

-- the tree names the document of that key: a text that is its name under the root
pub record SpellsName (root : Root) (d : json.Data) (key : List (List ℕ)) : Type 0 where
  pub names : IsKey key
  pub is : d ≡ json.string (name_text root key)

-- the tree is the text
abbrev pub SpellsText : json.Data → List ℕ → Type 0
SpellsText d content = d ≡ json.string content

-- a text that spells the bytes, the name of a document of any database, or the path of a field
abbrev pub SpellsBytesTree : json.Data → List ℕ → Type 0
SpellsBytesTree d those = (content : List ℕ) × (SpellsText d content × SpellsBytes content those)

abbrev pub SpellsReferenceTree : json.Data → RefName → Type 0
SpellsReferenceTree d name = (content : List ℕ) × (SpellsText d content × SpellsReference content name)

abbrev pub SpellsPathTree : json.Data → List (List ℕ) → Type 0
SpellsPathTree d path = (content : List ℕ) × (SpellsText d content × SpellsFieldPath content path)

abbrev pub SpellsQueryPathTree : json.Data → List (List ℕ) → Type 0
SpellsQueryPathTree d path = (content : List ℕ) × (SpellsText d content × SpellsQueryPath content path)

-- the id of a collection
abbrev pub SpellsId : json.Data → List ℕ → Type 0
SpellsId d id = IsSegment id × SpellsText d id

-- the name of a document, or without one of the root's `documents`
abbrev pub SpellsParent : Root → json.Data → Option (List (List ℕ)) → Type 0
SpellsParent root d None = SpellsText d (documents_text root)
SpellsParent root d (Some key) = SpellsName root d key

-- a scalar of that kind
abbrev pub SpellsScalar : Leaf → json.Data → Data → Type 0
SpellsScalar leaf.Null d v = IsNullTree d × (v ≡ null)
SpellsScalar leaf.Boolean d v = (is : Bool) × ((d ≡ json.boolean is) × (v ≡ boolean is))
SpellsScalar leaf.Integer d v = (z : ℤ) × (SpellsWhole d z × (v ≡ integer z))
SpellsScalar leaf.Time d v = (at : Timestamp) × (SpellsTime d at × (v ≡ time at))
SpellsScalar leaf.Text d v = (content : List ℕ) × (SpellsText d content × (v ≡ text content))
SpellsScalar leaf.Bytes d v = (those : List ℕ) × (SpellsBytesTree d those × (v ≡ bytes those))
SpellsScalar leaf.Reference d v = (name : RefName) × (SpellsReferenceTree d name × (v ≡ reference name))
SpellsScalar _ d v = ⊥

-- what may stand under the name of a value's kind
abbrev pub is_scalar : Leaf → Bool
is_scalar leaf.Name = false
is_scalar leaf.Path = false
is_scalar leaf.ServerTime = false
is_scalar leaf.Id = false
is_scalar leaf.Parent = false
is_scalar leaf.QueryPath = false
is_scalar leaf.Limit = false
is_scalar leaf.Descendants = false
is_scalar leaf.TargetId = false
is_scalar leaf.Count = false
is_scalar leaf.Code = false
is_scalar leaf.ListenerId = false
is_scalar (leaf.Constant which) = false
is_scalar _ = true

abbrev pub is_kind : Place → Bool
is_kind (place.Leaf kind) = is_scalar kind
is_kind (place.Object object.Array) = true
is_kind (place.Object object.Map) = true
is_kind place.Unsupported = true
is_kind _ = false

mutual
  -- a value: an object with exactly one kind
  pub data SpellsValue : json.Data → Data → Type 0 where
    of_kind : {d : json.Data} {v : Data} (ms : json.Members) (name : List ℕ) (inner : json.Data) → d ≡ json.object ms → chosen object.Value ms ≡ (name, inner) ∷ [] → SpellsKind (value_member name) inner v → SpellsValue d v

  -- what stands under the kind's name: a scalar, `{"values":[..]}` or `{"fields":{..}}`
  pub data SpellsKind : Place → json.Data → Data → Type 0 where
    as_scalar : {kind : Leaf} {d : json.Data} {v : Data} → SpellsScalar kind d v → SpellsKind (place.Leaf kind) d v
    as_array : {d : json.Data} {v : Data} (ms : json.Members) (ds : List Data) → d ≡ json.object ms → SpellsList (given (codes "values") ms) ds → v ≡ array_of ds → SpellsKind (place.Object object.Array) d v
    as_map : {d : json.Data} {v : Data} (ms : json.Members) (es : Entries) → d ≡ json.object ms → SpellsMap (given (codes "fields") ms) es → v ≡ map_of es → SpellsKind (place.Object object.Map) d v

  -- a list of values, which may be left out where it is empty
  pub data SpellsList : Option json.Data → List Data → Type 0 where
    no_list : SpellsList None []
    a_list : {ds : List Data} (items : json.Items) (d : json.Data) → d ≡ json.array items → SpellsItems items ds → SpellsList (Some d) ds

  pub data SpellsItems : json.Items → List Data → Type 0 where
    no_item : SpellsItems json.no_items []
    an_item : {d : json.Data} {items : json.Items} {v : Data} {vs : List Data} → SpellsValue d v → SpellsItems items vs → SpellsItems (json.item d items) (v ∷ vs)

  -- an object of fields, which may be left out where it is empty
  pub data SpellsMap : Option json.Data → Entries → Type 0 where
    no_map : SpellsMap None []
    a_map : {es : Entries} (ms : json.Members) (d : json.Data) → d ≡ json.object ms → SpellsMembers ms [] es → SpellsMap (Some d) es

  -- the members that aren't null, each the name and the value of a field, are put one after another
  pub data SpellsMembers : json.Members → Entries → Entries → Type 0 where
    no_member : {es : Entries} → SpellsMembers json.no_members es es
    left_out : {name : List ℕ} {d : json.Data} {ms : json.Members} {es fs : Entries} → is_null d ≡ true → SpellsMembers ms es fs → SpellsMembers (json.member name d ms) es fs
    a_member : {name : List ℕ} {d : json.Data} {ms : json.Members} {es fs : Entries} (v : Data) → is_null d ≡ false → SpellsValue d v → SpellsMembers ms (with_field es name v) fs → SpellsMembers (json.member name d ms) es fs

-- an object whose members spell the fields
pub record SpellsFields (d : json.Data) (fields : Entries) : Type 0 where
  pub members : json.Members
  pub is : d ≡ json.object members
  pub spelled : SpellsMembers members [] fields
