-- The printed form of values and fields: one tree for each. A time that isn't known yet prints as null.
use Rattle.std.specs.Prelude.{ℕ, List, [], ◌∷◌, Option, Some, None, codes}
use Rattle.std.specs.Fmt.{signed_decimal}
use Rattle.serde_json.specs.Data as json
use Rattle.document_keys.specs.Names.{Root, name_text}
use Rattle.value_model.specs.declared.document.DocState.{DocState}
use Rattle.value_model.specs.declared.document.DocState.TheVariants as state
use Rattle.value_model.specs.Data.{Data, null, boolean, integer, time, pending, text, bytes, reference, array, map, Items, no_items, item, Members, no_members, member, Entries, members_of}
use Rattle.value_model.specs.declared.timestamp.Timestamp.{Timestamp}
use Rattle.value_model.specs.Time.{time_text}
use Rattle.json_model.specs.Bytes.{printed_bytes}
use Rattle.json_model.specs.References.{root_of}
use Rattle.json_model.specs.Trees.{one, empty}

-- `{"nullValue":null}`
abbrev pub printed_null : json.Data
printed_null = one (codes "nullValue") json.null

-- a value of a kind that is printed as a text
abbrev pub printed_text : List ℕ → List ℕ → json.Data
printed_text name content = one name (json.string content)

-- `{"values":[..]}`, and `{}` where there is none
abbrev pub values_tree : json.Items → json.Data
values_tree json.no_items = empty
values_tree (json.item d ds) = one (codes "values") (json.array (json.item d ds))

-- `{"fields":{..}}`, and `{}` where there is none
abbrev pub fields_tree : json.Members → json.Data
fields_tree json.no_members = empty
fields_tree (json.member name d ms) = one (codes "fields") (json.object (json.member name d ms))

abbrev mutual
  pub printed_value : Data → json.Data
  printed_value null = printed_null
  printed_value (boolean b) = one (codes "booleanValue") (json.boolean b)
  printed_value (integer z) = printed_text (codes "integerValue") (signed_decimal z)
  printed_value (time t) = printed_text (codes "timestampValue") (time_text t)
  printed_value (pending t) = printed_null
  printed_value (text s) = printed_text (codes "stringValue") s
  printed_value (bytes s) = printed_text (codes "bytesValue") (printed_bytes s)
  printed_value (reference r) = printed_text (codes "referenceValue") (name_text (root_of r) r.key)
  printed_value (array ds) = one (codes "arrayValue") (values_tree (printed_items ds))
  printed_value (map ms) = one (codes "mapValue") (fields_tree (printed_members ms))

  pub printed_items : Items → json.Items
  printed_items no_items = json.no_items
  printed_items (item d ds) = json.item (printed_value d) (printed_items ds)

  -- each under its name, in their order
  pub printed_members : Members → json.Members
  printed_members no_members = json.no_members
  printed_members (member name d ms) = json.member name (printed_value d) (printed_members ms)

-- fields as an object of their values
abbrev pub printed_fields : Entries → json.Data
printed_fields fields = json.object (printed_members (members_of fields))

-- `fields`, where there are some, before the other members
abbrev pub with_fields : Entries → json.Members → json.Members
with_fields [] ms = ms
with_fields (field ∷ fields) ms = json.member (codes "fields") (printed_fields (field ∷ fields)) ms

-- `updateTime`, where there is one
abbrev pub with_time : Option Timestamp → json.Members
with_time None = json.no_members
with_time (Some at) = json.member (codes "updateTime") (json.string (time_text at)) json.no_members

-- an object of a name, the fields where there are some, a state, and an update time where there is one
abbrev pub document_tree : List ℕ → Entries → Option Timestamp → List ℕ → json.Data
document_tree name fields at how = json.object (with_fields fields (json.member (codes "name") (json.string name) (json.member (codes "state") (json.string how) (with_time at))))

-- how a state is printed
abbrev pub state_text : DocState → List ℕ
state_text state.Synced = codes "synced"
state_text state.Pending = codes "pending"
state_text state.Committed = codes "committed"
state_text state.Unknown = codes "unknown"

-- the document of a key under the root
abbrev pub printed_document : Root → List (List ℕ) → Entries → Option Timestamp → DocState → json.Data
printed_document root key fields at how = document_tree (name_text root key) fields at (state_text how)
